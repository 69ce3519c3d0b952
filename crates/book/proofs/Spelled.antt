-- Words and their bytes.
use Rattle.std.proofs.Common.{◌≡◌, ℕ, zero, suc, ◌+◌, ◌*◌, ◌/◌, ◌%◌, ◌<◌, ◌≤◌, List, [], ◌∷◌, ◌++◌, map, length, get_or, take, drop, sym, ap, ◌∙◌, subst, ⊎_elim, suc-mul, zero-mul, arith, lit<}
use Rattle.std.proofs.lemmas.Bool.{cases_lt}
use Rattle.std.specs.Simd.{first_chunks}
use Rattle.std.proofs.lemmas.List.{take-append-drop, length-drop, length-take, length-take-le, get_or-take, get_or-drop, get_or_past, nil_from_length}
use Rattle.book.specs.Words.{word_of, bytes_of, spelled}

abbrev sum : ℕ → ℕ → ℕ → ℕ → ℕ → ℕ → ℕ → ℕ → ℕ
sum a b c d e f g h = a + b * 256 + c * 65536 + d * 16777216 + e * 4294967296 + f * 1099511627776 + g * 281474976710656 + h * 72057594037927936

module _ (a b c d e f g h : ℕ) (pa : a < 256) (pb : b < 256) (pc : c < 256) (pd : d < 256) (pe : e < 256) (pf : f < 256) (pg : g < 256) (ph : h < 256) where
  d0 : sum a b c d e f g h % 256 ≡ a
  d0 = omega arith

  d1 : sum a b c d e f g h / 256 % 256 ≡ b
  d1 = omega arith

  d2 : sum a b c d e f g h / 65536 % 256 ≡ c
  d2 = omega arith

  d3 : sum a b c d e f g h / 16777216 % 256 ≡ d
  d3 = omega arith

  d4 : sum a b c d e f g h / 4294967296 % 256 ≡ e
  d4 = omega arith

  d5 : sum a b c d e f g h / 1099511627776 % 256 ≡ f
  d5 = omega arith

  d6 : sum a b c d e f g h / 281474976710656 % 256 ≡ g
  d6 = omega arith

  d7 : sum a b c d e f g h / 72057594037927936 % 256 ≡ h
  d7 = omega arith

  pub eight : bytes_of (word_of (a ∷ b ∷ c ∷ d ∷ e ∷ f ∷ g ∷ h ∷ [])) ≡ a ∷ b ∷ c ∷ d ∷ e ∷ f ∷ g ∷ h ∷ []
  unfolding bytes_of word_of
  eight = cc (d0, d1, d2, d3, d4, d5, d6, d7)

pub word_bytes : (w : ℕ) → w < 18446744073709551616 → word_of (bytes_of w) ≡ w
unfolding bytes_of word_of
word_bytes w h = omega arith

-- eight bytes, whatever they are
pub eight_any : (xs : List ℕ) → length xs ≡ 8 → ((i : ℕ) → get_or xs i 0 < 256) → bytes_of (word_of xs) ≡ xs
eight_any [] l t = absurd (omega arith)
eight_any (a ∷ []) l t = absurd (omega arith)
eight_any (a ∷ b ∷ []) l t = absurd (omega arith)
eight_any (a ∷ b ∷ c ∷ []) l t = absurd (omega arith)
eight_any (a ∷ b ∷ c ∷ d ∷ []) l t = absurd (omega arith)
eight_any (a ∷ b ∷ c ∷ d ∷ e ∷ []) l t = absurd (omega arith)
eight_any (a ∷ b ∷ c ∷ d ∷ e ∷ f ∷ []) l t = absurd (omega arith)
eight_any (a ∷ b ∷ c ∷ d ∷ e ∷ f ∷ g ∷ []) l t = absurd (omega arith)
eight_any (a ∷ b ∷ c ∷ d ∷ e ∷ f ∷ g ∷ h ∷ []) l t = eight a b c d e f g h (t 0) (t 1) (t 2) (t 3) (t 4) (t 5) (t 6) (t 7)
eight_any (a ∷ b ∷ c ∷ d ∷ e ∷ f ∷ g ∷ h ∷ i ∷ xs) l t = absurd (omega arith)

-- the first eight of enough
front_byte : (bs : List ℕ) → ((i : ℕ) → get_or bs i 0 < 256) → (i : ℕ) → get_or (take 8 bs) i 0 < 256
front_byte bs t i = ⊎_elim (λ l. subst (λ x. x < 256) (sym (get_or-take 8 bs i 0 l)) (t i)) (λ (l : 8 ≤ i). subst (λ x. x < 256) (sym (get_or_past (take 8 bs) i 0 (simp length-take (omega arith)))) (lit< tt)) (cases_lt i 8)

pub spelled_chunks : (n : ℕ) (bs : List ℕ) → length bs ≡ n * 8 → ((i : ℕ) → get_or bs i 0 < 256) → spelled (map word_of (first_chunks 8 n bs)) ≡ bs
spelled_chunks zero bs l t = sym (nil_from_length bs (l ∙ zero-mul 8))
spelled_chunks (suc n) bs l t =
    let m : suc n * 8 ≡ n * 8 + 8 = suc-mul n 8 in
    ap (λ u. u ++ spelled (map word_of (first_chunks 8 n (drop 8 bs)))) (eight_any (take 8 bs) (length-take-le 8 bs (omega arith)) (front_byte bs t))
    ∙ ap (λ u. take 8 bs ++ u) (spelled_chunks n (drop 8 bs) (simp length-drop (omega arith)) (λ i. subst (λ x. x < 256) (sym (get_or-drop 8 bs i 0)) (t (8 + i))))
    ∙ take-append-drop 8 bs
