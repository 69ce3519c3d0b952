-- The first place with a cause, step by step.
use Rattle.std.proofs.Common.{◌≡◌, ℕ, zero, suc, ◌+◌, ◌<◌, ◌≤◌, List, [], ◌∷◌, map, length, get_or, drop, Some, None, Option, sym, refl, ap, ◌∙◌, add_assoc, zero-add, arith}
use Rattle.std.proofs.lemmas.List.{at_drop_more, at_drop_all}
use Rattle.std.proofs.lemmas.Option.{none-some}
use Rattle.std.proofs.lemmas.List.FromFn.{get_or-enumerate_from, length-enumerate_from}
use Rattle.std.proofs.lemmas.Iterator.{YieldsList, YieldsList-from_map, maps}
use Rattle.std.proofs.lemmas.Iterator.Consumers.{YieldsList-at, YieldsList-from_enumerate}
use denote.Param.Members.{Mut, Called}
use Rattle.std.specs.Iterator.{AlwaysYields}
use Rattle.std.specs.Iterator.Adapters.{enumerate_source, enumerate_count, enumerate_steps, map_source, map_callee}
use Rattle.std.specs.List.{enumerate_from}
use Rattle.std.specs.declared.iter.Enumerate.{Enumerate}
use Rattle.std.specs.declared.iter.Map.{Map}
use Rattle.book.specs.declared.faults.Cause.{Cause}
use Rattle.book.specs.Causes.{told, first}

told_was : (c : Option Cause) (i : ℕ) (o : Option (Cause × ℕ)) → told c i o ≡ None → (c ≡ None) × (o ≡ None)
told_was None i o e = (refl, e)
told_was (Some c) i o e = absurd (none-some _ (sym e))

module _ {X : Type 0} (c : X → Option Cause) where
  first_step : (i : ℕ) (xs : List X) (j : ℕ) (d : X) → j < length xs → first c (i + j) (drop j xs) ≡ told (c (get_or xs j d)) (i + j) (first c (i + (j + 1)) (drop (j + 1) xs))
  first_step i xs j d h =
      let e : first c (i + j) (drop j xs) ≡ told (c (get_or xs j d)) (i + j) (first c (i + j + 1) (drop (j + 1) xs)) = at_drop_more (first c (i + j)) xs j d h in
      e ∙ ap (λ p. told (c (get_or xs j d)) (i + j) (first c p (drop (j + 1) xs))) (add_assoc i j 1)

  first_more : (i : ℕ) (xs : List X) (j : ℕ) (d : X) → j < length xs → c (get_or xs j d) ≡ None → first c (i + (j + 1)) (drop (j + 1) xs) ≡ first c (i + j) (drop j xs)
  first_more i xs j d h e = sym (first_step i xs j d h ∙ ap (λ o. told o (i + j) (first c (i + (j + 1)) (drop (j + 1) xs))) e)

  first_here : (i : ℕ) (xs : List X) (j : ℕ) (d : X) {o : Cause} → j < length xs → c (get_or xs j d) ≡ Some o → first c (i + j) (drop j xs) ≡ Some (o, i + j)
  first_here i xs j d h e = first_step i xs j d h ∙ ap (λ o. told o (i + j) (first c (i + (j + 1)) (drop (j + 1) xs))) e

  first_all : (i : ℕ) (xs : List X) (j : ℕ) → length xs ≤ j → first c i (drop j xs) ≡ None
  first_all i xs j h = at_drop_all (first c i) xs j h

  -- where the first is none, there is none
  pub none_at : (i : ℕ) (xs : List X) (j : ℕ) (d : X) → first c i xs ≡ None → j < length xs → c (get_or xs j d) ≡ None
  none_at i [] j d e h = absurd (omega arith)
  none_at i (x ∷ xs) zero d e h = (told_was (c x) i _ e).0
  none_at i (x ∷ xs) (suc j) d e h = none_at (i + 1) xs j d (told_was (c x) i _ e).1 (omega arith)

first-map : {X Y : Type 0} (c : Y → Option Cause) (f : X → Y) (i : ℕ) (xs : List X) → first c i (map f xs) ≡ first (λ x. c (f x)) i xs
first-map c f i [] = refl
first-map c f i (x ∷ xs) = ap (told (c (f x)) i) (first-map c f (i + 1) xs)

-- a loop over numbered items: what it knows of the item at its turn, and after the last
counted : {X : Type 0} (xs : List X) (n j : ℕ) (x : X) → (n < length (enumerate_from 0 xs)) × ((j, x) ≡ get_or (enumerate_from 0 xs) n (j, x)) → (n < length xs) × (j ≡ n) × (x ≡ get_or xs n x)
counted {X} xs n j x t =
    let l : n < length xs = omega (arith, t.0, length-enumerate_from 0 xs) in
    let e = t.1 ∙ get_or-enumerate_from 0 xs n (j, x) l in
    (l, ap (λ (p : ℕ × X). p.0) e ∙ zero-add n, ap (λ (p : ℕ × X). p.1) e)

module _ {X : Type 0} (c : X → Option Cause) (i : ℕ) (xs : List X) where
  pub turn_bad : (n j : ℕ) (x : X) {o : Cause} → (n < length (enumerate_from 0 xs)) × ((j, x) ≡ get_or (enumerate_from 0 xs) n (j, x)) → c x ≡ Some o → first c (i + n) (drop n xs) ≡ first c i xs → Some (o, i + j) ≡ first c i xs
  turn_bad n j x {o} t e inv =
      let r = counted xs n j x t in
      ap (λ m. Some (o, i + m)) r.1 ∙ sym (first_here c i xs n x r.0 (ap c (sym r.2) ∙ e)) ∙ inv

  pub turn_fine : (n j : ℕ) (x : X) {m : ℕ} → (n < length (enumerate_from 0 xs)) × ((j, x) ≡ get_or (enumerate_from 0 xs) n (j, x)) → c x ≡ None → first c (i + n) (drop n xs) ≡ first c i xs → m ≡ n + 1 → first c (i + m) (drop m xs) ≡ first c i xs
  turn_fine n j x t e inv m =
      let r = counted xs n j x t in
      ap (λ k. first c (i + k) (drop k xs)) m ∙ first_more c i xs n x r.0 (ap c (sym r.2) ∙ e) ∙ inv

  pub turn_end : (n : ℕ) → n ≡ length (enumerate_from 0 xs) → first c (i + n) (drop n xs) ≡ first c i xs → None ≡ first c i xs
  turn_end n e inv = sym (first_all c (i + n) xs n (omega (arith, length-enumerate_from 0 xs))) ∙ inv

-- what an iterator under `enumerate` yields
pub numbered : {S X : Type 0} (steps : S → Option X → S → Type 0) {s : S} {e n : Enumerate S} (xs : List X) → AlwaysYields steps (λ x. x) s xs → enumerate_source n ≡ s → enumerate_count n ≡ 0 → e ≡ n
    → YieldsList {B = ℕ × X} (enumerate_steps steps) (λ p. (p.0, p.1)) e (enumerate_from 0 xs)
numbered steps {s} xs h source count same =
    let r : YieldsList steps (λ x. x) s xs = record { runs = h } in
    YieldsList-at same (YieldsList-from_enumerate (YieldsList-at source r) count)

-- what is refused of an iterator that judges the items of another
pub judged : {S A X F : Type 0} {steps : S → Option A → S → Type 0} {v : A → X} {g : Mut F (A × Unit {0}) (Option Cause)} {s : Map S F} {f : F} (c : X → Option Cause) (i : ℕ) {xs : List X} {o : Option (Cause × ℕ)}
    → ((cs : List (Option Cause)) → AlwaysYields (maps steps g) (λ r. r) s cs → o ≡ first (λ r. r) i cs) → YieldsList steps v (map_source s) xs → map_callee s ≡ f
    → ((x : A) (r : Option Cause) (q : F) → Called g f (x, tt) r q → (q ≡ f) × (r ≡ c (v x))) → o ≡ first c i xs
judged {g = g} c i {xs} refused items same says = refused _ (YieldsList-from_map g c items same says).runs ∙ first-map (λ r. r) c i xs
