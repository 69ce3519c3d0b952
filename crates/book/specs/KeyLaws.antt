-- Keys and entries are read back from their words, and keep them.
use Rattle.std.specs.Prelude.{◌≡◌, ℕ, ◌/◌, ◌%◌, true, Some, None, Option, nat_lt}
use mathlib.Core.HLevel.{is_prop→PathP}
use Rattle.std.proofs.Common.{sym, ap, ap₂, ◌∙◌, arith}
use denote.Struct.Props.{props}
use Rattle.std.proofs.lemmas.Bool.{and_from, lt-ltb}
use Rattle.strength.specs.Kind.{Kind, ReadsBack, KeepsWord}
use Rattle.strength.specs.Equalities.{when_true, when_some}
use Rattle.book.specs.declared.keys.Key.{Key}
use Rattle.book.specs.declared.rows.Entry.{Entry}
use Rattle.book.specs.Keys.{KeyInRange, key_test}
use Rattle.book.specs.Entries.{key, key_word, key_of_word}
use Rattle.book.specs.Layouts.{ReadsBackRow, KeepsWords, entry, entry_layout}

in_range_prop : (p s : ℕ) → IsProp (KeyInRange p s)
in_range_prop p s = hlevel props

pub same_key : (a b : Key) → a.post.0 ≡ b.post.0 → a.step.0 ≡ b.step.0 → a ≡ b
same_key a b p q = λ i. record {
  post = record { 0 = p i };
  step = record { 0 = q i };
  ok = is_prop→PathP (λ i. KeyInRange (p i) (q i)) (λ i. in_range_prop (p i) (q i)) a.ok b.ok i;
}

pub key_made : (k : Key) (p s : ℕ) → p ≡ k.post.0 → s ≡ k.step.0 → key p s ≡ Some k
key_made k p s e f =
    let t : key_test p s ≡ true = and_from (nat_lt p 64) (nat_lt s 64) (lt-ltb p 64 (omega arith)) (lt-ltb s 64 (omega arith)) in
    when_true (key_test p s) _ t ∙ ap Some (same_key _ k e f)

made_from : (k : Key) (p s : ℕ) → key p s ≡ Some k → (k.post.0 ≡ p) × (k.step.0 ≡ s)
made_from k p s e =
    let w = when_some (key_test p s) _ k e in
    (sym (ap (λ (x : Key). x.post.0) w.1), sym (ap (λ (x : Key). x.step.0) w.1))

key_reads_back : (k : Key) → key_of_word (key_word k) ≡ Some k
key_reads_back k = key_made k (key_word k / 64) (key_word k % 64) (omega arith) (omega arith)

key_keeps_word : (w : ℕ) (k : Key) → key_of_word w ≡ Some k → key_word k ≡ w
key_keeps_word w k e = let p = made_from k (w / 64) (w % 64) e in omega arith

entry-parts : {S : Type 0} (o : Option Key) (p : Option S) (x : Entry S) → entry o p ≡ Some x → (o ≡ Some x.key) × (p ≡ Some x.strength)
entry-parts {S} (Some a) (Some b) x e =
    let y : Entry S = record { key = a; strength = b } in
    let s : y ≡ x = cc in
    (ap (λ (y : Entry S). Some y.key) s, ap (λ (y : Entry S). Some y.strength) s)
entry-parts (Some a) None x e = let z : ◌≡◌ {A = ℕ} 0 1 = cc in absurd (omega arith)
entry-parts None p x e = let z : ◌≡◌ {A = ℕ} 0 1 = cc in absurd (omega arith)

module _ {S : Type 0} (k : Kind S) where
  pub entry_reads_back : ReadsBack k → ReadsBackRow (entry_layout k)
  entry_reads_back law x = ap₂ entry (key_reads_back x.key) (law x.strength)

  pub entry_keeps_words : KeepsWord k → KeepsWords (entry_layout k)
  entry_keeps_words law a b x e =
      let p = entry-parts (key_of_word a) (k.of_word b) x e in
      (key_keeps_word a x.key p.0, law b x.strength p.1)
