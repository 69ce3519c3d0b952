-- Bytes written over others, one after another.
use Rattle.std.proofs.Common.{◌≡◌, ℕ, ◌+◌, ◌*◌, ◌<◌, ◌≤◌, List, [], ◌∷◌, ◌++◌, length, get_or, take, drop, sym, refl, ap, ◌∙◌, append_assoc, append-nil, add-zero, arith}
use Rattle.std.proofs.lemmas.List.{take-append-drop, take_at, drop_at, drop-drop, length-append, length-take-le, take_more}
use Rattle.book.specs.Words.{bytes_of, spelled}
use Rattle.book.specs.Over.{over}

pub over_none : (old : List ℕ) (p : ℕ) → over old p [] ≡ old
unfolding over
over_none old p = ap (λ n. take p old ++ drop n old) (add-zero p) ∙ take-append-drop p old

pub over-over : (old : List ℕ) (p q : ℕ) (xs ys : List ℕ) → p + length xs ≤ length old → q ≡ p + length xs → over (over old p xs) q ys ≡ over old p (xs ++ ys)
unfolding over
over-over old p q xs ys h e =
    let front = take p old ++ xs in
    let rest = drop (p + length xs) old in
    let l : length front ≡ q = length-append (take p old) xs ∙ (let a = length-take-le p old (omega arith) in omega arith) in
    let whole : take p old ++ (xs ++ rest) ≡ front ++ rest = sym (append_assoc (take p old) xs rest) in
    let a : take q (take p old ++ (xs ++ rest)) ≡ front = ap (take q) whole ∙ take_at front rest q l in
    let b : drop (q + length ys) (take p old ++ (xs ++ rest)) ≡ drop (p + length (xs ++ ys)) old =
    ap (drop (q + length ys)) whole ∙ sym (drop-drop (length ys) q (front ++ rest)) ∙ ap (drop (length ys)) (drop_at front rest q l) ∙ drop-drop (length ys) (p + length xs) old
    ∙ ap (λ n. drop n old) (let z = length-append xs ys in omega arith) in
    ap (λ t. t ++ (ys ++ drop (q + length ys) (take p old ++ (xs ++ rest)))) a ∙ ap (λ t. front ++ (ys ++ t)) b
    ∙ append_assoc (take p old) xs (ys ++ drop (p + length (xs ++ ys)) old) ∙ ap (λ t. take p old ++ t) (sym (append_assoc xs ys (drop (p + length (xs ++ ys)) old)))

pub length_bytes : (w : ℕ) → length (bytes_of w) ≡ 8
unfolding bytes_of
length_bytes w = refl

pub length-spelled : (ws : List ℕ) → length (spelled ws) ≡ 8 * length ws
length-spelled [] = refl
length-spelled (w ∷ ws) = length-append (bytes_of w) (spelled ws) ∙ (let a = length_bytes w in let b = length-spelled ws in omega arith)

pub spelled-append : (xs ys : List ℕ) → spelled (xs ++ ys) ≡ spelled xs ++ spelled ys
spelled-append [] ys = refl
spelled-append (x ∷ xs) ys = ap (λ t. bytes_of x ++ t) (spelled-append xs ys) ∙ sym (append_assoc (bytes_of x) (spelled xs) (spelled ys))

-- one more word
pub over_more : (old : List ℕ) (p i : ℕ) (ws : List ℕ) → i < length ws → p + 8 * length ws ≤ length old
    → over (over old p (spelled (take i ws))) (p + 8 * i) (bytes_of (get_or ws i 0)) ≡ over old p (spelled (take (i + 1) ws))
over_more old p i ws h l =
    let n = length-spelled (take i ws) in
    let m = length-take-le i ws (omega arith) in
    over-over old p (p + 8 * i) (spelled (take i ws)) (bytes_of (get_or ws i 0)) (omega arith) (omega arith)
    ∙ ap (over old p) (ap (λ t. spelled (take i ws) ++ t) (sym (append-nil (bytes_of (get_or ws i 0)))) ∙ sym (spelled-append (take i ws) (get_or ws i 0 ∷ [])) ∙ ap spelled (sym (take_more ws i 0 h)))

-- more words after these
pub over-words : (old : List ℕ) (p q : ℕ) (xs ys : List ℕ) → q ≡ p + 8 * length xs → q ≤ length old → over (over old p (spelled xs)) q (spelled ys) ≡ over old p (spelled (xs ++ ys))
over-words old p q xs ys e h =
    let n = length-spelled xs in
    over-over old p q (spelled xs) (spelled ys) (omega arith) (omega arith) ∙ ap (over old p) (sym (spelled-append xs ys))
