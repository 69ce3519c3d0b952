-- Flags that are set one after another, and the queue of their places.
use Rattle.std.proofs.Common.{◌≡◌, ℕ, zero, suc, ◌+◌, ◌<◌, ◌≤◌, Bool, true, false, ◌⊎◌, List, [], ◌∷◌, ◌++◌, length, get_or, set, replicate, sym, refl, ap, ◌∙◌, subst, inl, inr, arith, below_more}
use Rattle.std.proofs.lemmas.List.{length_push, get_or_push, get_or_append_left, get_or-set_same, get_or-set_other, get_or-replicate, get_or_past, length-replicate, length-set}
use Rattle.std.proofs.lemmas.Bool.{both_ways, cases_eq, cases_lt}
use Rattle.delegation.specs.Walks.{Set, unset, Queued, Longer}

pub set_stays : (flags : List Bool) (i : ℕ) → i < length flags → (j : ℕ) → Set flags j → Set (set flags i true) j
set_stays flags i lt j h =
    elim (cases_eq j i) [
      | inl e ↦ subst (λ (y : ℕ). Set (set flags i true) y) (sym e) (get_or-set_same flags i true false lt)
      | inr ne ↦ get_or-set_other flags i j true false ne ∙ h
    ]

pub set_cases : (flags : List Bool) (i j : ℕ) → Set (set flags i true) j → (j ≡ i) ⊎ Set flags j
set_cases flags i j h =
    elim (cases_eq j i) [ inl e ↦ inl e | inr ne ↦ inr (sym (get_or-set_other flags i j true false ne) ∙ h) ]

pub none-set : (n i : ℕ) → Set (replicate n false) i → ⊥
none-set n i h =
    elim (cases_lt i n) [
      | inl lt ↦ both_ways false refl (sym (get_or-replicate n i false false lt) ∙ h)
      | inr ge ↦ both_ways false refl (sym (get_or_past (replicate n false) i false (rw length-replicate ge)) ∙ h)
    ]

unset_set : (flags : List Bool) (i : ℕ) → i < length flags → get_or flags i false ≡ false → unset (set flags i true) + 1 ≡ unset flags
unset_set [] i lt e = omega arith
unset_set (true ∷ flags) zero lt e = absurd (both_ways true e refl)
unset_set (false ∷ flags) zero lt e = omega arith
unset_set (true ∷ flags) (suc i) lt e = unset_set flags i (omega arith) e
unset_set (false ∷ flags) (suc i) lt e = let h : unset (set flags i true) + 1 ≡ unset flags = unset_set flags i (omega arith) e in omega arith

unset-none : (n : ℕ) → unset (replicate n false) ≡ n
unset-none zero = refl
unset-none (suc n) = ap suc (unset-none n)

pub queued_none : (n m : ℕ) → Queued n (replicate m false) []
queued_none n m = record {
  each_once = omega (arith, unset-none m, length-replicate m false);
  flagged = λ p lt. absurd (omega arith);
  queued = λ i lt h. absurd (none-set m i h);
}

module _ (n : ℕ) (flags : List Bool) (queue : List ℕ) (q : Queued n flags queue) where
  module _ (i : ℕ) (lt : i < n) (room : n ≤ length flags) (clear : get_or flags i false ≡ false) where
    pub queue_room : length queue < length flags
    queue_room =
        let inside : i < length flags = omega arith in
        omega (arith, unset_set flags i inside clear, q.each_once)

    pub queued_more : Queued n (set flags i true) (queue ++ i ∷ [])
    queued_more =
        let inside : i < length flags = omega arith in
        let more : length (queue ++ i ∷ []) ≡ length queue + 1 = length_push queue i in
        let same : (p : ℕ) → p < length queue → get_or (queue ++ i ∷ []) p 0 ≡ get_or queue p 0 = λ p l. get_or_append_left queue (i ∷ []) 0 p l in
        let here : get_or (queue ++ i ∷ []) (length queue) 0 ≡ i = get_or_push queue i 0 (length queue) refl in
        let P : ℕ → Type 0 = λ y. (y < n) × Set (set flags i true) y in
        record {
          each_once = omega (arith, unset_set flags i inside clear, q.each_once, length-set flags i true, more);
          flagged = λ p l. below_more (λ p. P (get_or (queue ++ i ∷ []) p 0)) _
              (λ p l. subst P (sym (same p l)) ((q.flagged p l).0, set_stays flags i inside _ (q.flagged p l).1))
              (subst P (sym here) (lt, get_or-set_same flags i true false inside)) p (omega arith);
          queued = λ j ltj h. elim (set_cases flags i j h) [
            | inl e ↦ (length queue, omega arith, here ∙ sym e)
            | inr s ↦ (let r = q.queued j ltj s in (r.0, omega (arith, r.1), same r.0 r.1 ∙ r.2))
          ];
        }

  pub longer_more : (i : ℕ) (before : List ℕ) → Longer before queue → Longer before (queue ++ i ∷ [])
  longer_more i before m = record {
    no_fewer = omega (arith, m.no_fewer, length_push queue i);
    same = λ p l. let l' : p < length queue = omega (arith, m.no_fewer) in get_or_append_left queue (i ∷ []) 0 p l' ∙ m.same p l;
  }
