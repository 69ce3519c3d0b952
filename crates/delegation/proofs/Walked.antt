-- What a walk has reached, and that at its end it has reached all that is chained.
use Rattle.std.proofs.Common.{◌≡◌, ℕ, ◌+◌, ◌<◌, ◌≤◌, Bool, true, false, List, length, get_or, set, Some, None, Option, sym, ◌∙◌, subst, inl, inr, arith, below_more}
use Rattle.std.specs.List.{HoldsAt}
use Rattle.std.proofs.lemmas.List.Elements.{at_read}
use Rattle.std.proofs.lemmas.List.{get_or_default, get_or_read, get_or-set_same}
use Rattle.strength.specs.Kind.{Kind, ReadsBack}
use Rattle.book.specs.Rules.{Rules}
use Rattle.delegation.specs.Rights.{Chained, Heads, Supports}
use Rattle.delegation.specs.Walks.{Set, LeftAt, Left, Queued, Longer, Leads, Reached, ChainsFlagged}
use Rattle.delegation.specs.declared.grants.Grant.{Grant}
use Rattle.delegation.specs.declared.grants.Right.{Right}
use Rattle.delegation.proofs.Flags.{set_stays, set_cases}
use Rattle.delegation.proofs.Searches.{some_read}
use Rattle.delegation.proofs.Links.{chained_first, chained_next, at_end}

module _ {S : Type 0} (k : Kind S) (r : Rules S) (gs : List (Grant S)) (gone : List Bool) where
  module _ (earlier : Option (Grant S)) (before flags : List Bool) (i : ℕ) (x : Grant S) (read : x ≡ get_or gs i x) (done : Reached k r earlier gs gone i before flags) where
    pub reached_more : i < length gs → i < length flags → get_or gone i false ≡ false → Leads k r earlier x → Reached k r earlier gs gone (i + 1) before (set flags i true)
    reached_more lt inside left leads = record {
      stays = λ j h. set_stays flags i inside j (done.stays j h);
      only = λ j h. elim (set_cases flags i j h) [
        | inl e ↦ inr (subst (λ n. LeftAt gs gone n × HoldsAt (Leads k r earlier) gs n) (sym e) ((lt, left), at_read gs (Leads k r earlier) i x lt read leads))
        | inr s ↦ done.only j s
      ];
      every = below_more _ _ (λ j l a b. set_stays flags i inside j (done.every j l a b)) (λ a b. get_or-set_same flags i true false inside);
    }

  -- all that is flagged is left, and chained
  abbrev pub Sound : List Bool → Type 0
  Sound flags = (i : ℕ) → Set flags i → LeftAt gs gone i × HoldsAt (Chained k r (Left gs gone)) gs i

  -- all that comes first is flagged
  abbrev pub Started : List Bool → Type 0
  Started flags = (i : ℕ) → LeftAt gs gone i → HoldsAt (Leads k r None) gs i → Set flags i

  -- all that comes after the grants in the first places of the queue is flagged
  abbrev pub Served : List Bool → List ℕ → ℕ → Type 0
  Served flags queue done = (p : ℕ) → p < done → (i : ℕ) → LeftAt gs gone i → ((d : Grant S) → Supports k r (get_or gs (get_or queue p 0) d) (get_or gs i d)) → Set flags i

  -- a grant at a place that is left is one of those that are left
  left_here : (i : ℕ) → LeftAt gs gone i → (d : Grant S) → Left gs gone (get_or gs i d)
  left_here i left d = (i, left, λ e. get_or_default gs i e d left.0)

  module _ (law : ReadsBack k) where
    pub sound_first : (before after : List Bool) → Sound before → Reached k r None gs gone (length gs) before after → Sound after
    sound_first before after sound step i h =
        elim (step.only i h) [
          | inl s ↦ sound i s
          | inr n ↦ (n.0, λ d. let e = n.1 d in chained_first k r (Left gs gone) (get_or gs i d) e.0 e.1 (left_here i n.0 d))
        ]

    pub sound_next : (before after : List Bool) (j : ℕ) (x : Grant S) → x ≡ get_or gs j x → Set before j → Sound before → Reached k r (Some x) gs gone (length gs) before after → Sound after
    sound_next before after j x read set-j sound step i h =
        elim (step.only i h) [
          | inl s ↦ sound i s
          | inr n ↦ (n.0, λ d. chained_next k r law (Left gs gone) x (get_or gs i d) (subst (Chained k r (Left gs gone)) (sym read) ((sound j set-j).1 x)) (n.1 d) (left_here i n.0 d))
        ]

  pub started_after : (before after : List Bool) → ((i : ℕ) → Set before i → Set after i) → Started before → Started after
  started_after before after more start i left here = more i (start i left here)

  pub served_more : (before after : List Bool) (queue longer : List ℕ) (done : ℕ) (x : Grant S) → done < length queue → get_or queue done 0 < length gs → x ≡ get_or gs (get_or queue done 0) x →
      Longer queue longer → Reached k r (Some x) gs gone (length gs) before after → Served before queue done → Served after longer (done + 1)
  served_more before after queue longer done x lt in' read long step served =
      let P : ℕ → Type 0 = λ j. (i : ℕ) → LeftAt gs gone i → ((d : Grant S) → Supports k r (get_or gs j d) (get_or gs i d)) → Set after i in
      below_more _ _
      (λ p l. let l' : p < length queue = omega arith in subst P (sym (long.same p l')) (λ i left s. step.stays i (served p l i left s)))
      (subst P (sym (long.same done lt))
      (λ i left s. step.every i left.0 left
      (λ d. subst (λ h. Supports k r h (get_or gs i d)) (sym (get_or_read gs (get_or queue done 0) x in' read d)) (s d))))

  module _ (flags : List Bool) (queue : List ℕ) (done : ℕ) (start : Started flags) (q : Queued (length gs) flags queue) (served : Served flags queue done) (all : length queue ≤ done) where
    -- wherever the grant is left, it is flagged
    abbrev Met : Grant S → Type 0
    Met g = (i : ℕ) → LeftAt gs gone i → HoldsAt (λ h. h ≡ g) gs i → Set flags i

    met_first : (g : Grant S) (p : Right S) → Left gs gone g → Heads k r p g → Met g
    met_first g p _ e i left same = start i left (λ d. (p, subst (Heads k r p) (sym (same d)) e))

    met_next : (h g : Grant S) → Left gs gone h → Met h → Left gs gone g → Supports k r h g → Met g
    met_next h g a met _ s i left same =
        let w = q.queued a.0 a.1.0 (met a.0 a.1 a.2) in
        let l : w.0 < done = omega (arith, w.1) in
        served w.0 l i left
        (λ d. subst (λ y. Supports k r y (get_or gs i d)) (sym (subst (λ n. get_or gs n d ≡ h) (sym w.2) (a.2 d)))
        (subst (Supports k r h) (sym (same d)) s))

    -- when the whole queue is served, the flags are exact
    pub all_reached : Sound flags → ChainsFlagged k r gs gone flags
    all_reached sound i = (
      sound i,
      λ h.
          let x = some_read gs i h.0.0 in
          let c = h.1 x.0 in
          at_end k r (Left gs gone) Met met_first met_next c.1 c.2 i h.0 (λ d. x.1 d ∙ sym (x.1 x.0)),
    )
