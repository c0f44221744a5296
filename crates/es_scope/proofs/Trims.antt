-- What is left of a text once underscores are cut off its front, or digits off its end.
use Rattle.std.proofs.Common.{◌≡◌, ℕ, ◌-◌, ◌<◌, Bool, true, false, Option, Some, None, List, [], ◌∷◌, ◌++◌, length, take, drop, reverse, refl, sym, ap, ◌∙◌, arith, rules}
use Rattle.std.proofs.lemmas.Bool.Decides.{nat_tests}
use Rattle.std.proofs.lemmas.List.{reverse-append, reverse-reverse, take-append-drop, drop_all}
use Rattle.std.proofs.lemmas.Str.{encode_ascii, len_utf8_ascii}
use Rattle.std.proofs.lemmas.Str.Pattern.{drop_at_char}
use Rattle.std.specs.Char.{IsScalar}
use Rattle.std.specs.Option.{IfSome}
use Rattle.std.specs.Str.Pattern.{HasCharAt, FindsCharPrefix, FindsSuffixBy, HasPassingCharAt, CutsPrefixes, CutsSuffixes, IsTrimStartMatches, IsTrimEndMatches}
use Rattle.es_tree.specs.Words.{Text}
use Rattle.es_tree.specs.Fresh.{is_underscore, without_underscores, is_digit, dropped_digits, without_last_digits}

-- UNDERSCORES

cut_underscore : (s : Text) (n : ℕ) → HasCharAt 95 s 0 n → without_underscores s ≡ without_underscores (drop n s)
cut_underscore s n h =
    let e : s ≡ 95 ∷ drop n s = drop_at_char 95 s 0 n h (omega arith) in
    ap without_underscores e

cut_underscores : (ns : List ℕ) (s r : Text) → CutsPrefixes (FindsCharPrefix 95) s ns r → without_underscores s ≡ without_underscores r
cut_underscores [] s r h = ap without_underscores (sym h)
cut_underscores (n ∷ ns) s r h =
    cut_underscores ns s h.0 h.1 ∙ (cut_underscore h.0 n h.2 ∙ ap without_underscores (sym h.3))

no_underscore : (r : Text) (o : Option ℕ) → FindsCharPrefix 95 r o → IfSome o (λ n. n ≡ 0) → without_underscores r ≡ r
no_underscore [] o h z = refl
no_underscore (c ∷ cs) None h z = kept (is_underscore c) refl where
  kept : (b : Bool) → is_underscore c ≡ b → without_underscores (c ∷ cs) ≡ c ∷ cs
  kept true e =
      let same : c ≡ 95 = grind (arith, nat_tests) in
      absurd (h cs (rw same (ap (λ t. t ++ cs) (sym (encode_ascii 95 (omega arith))))))
  kept false e = rw e refl
no_underscore (c ∷ cs) (Some n) h z = absurd (omega (arith, h.ends, len_utf8_ascii 95 (omega arith)))

pub without_underscores-trim : (s r : Text) → IsTrimStartMatches (FindsCharPrefix 95) s r → r ≡ without_underscores s
without_underscores-trim s r h =
    sym (no_underscore r h.1.0 h.1.1 h.1.2) ∙ sym (cut_underscores h.0.0 s r h.0.1)

-- DIGITS

digit_ascii : (c : ℕ) → is_digit c ≡ true → c < 128
digit_ascii c h = grind (arith, nat_tests)

cut_digit : (s : Text) (n : ℕ) → HasPassingCharAt is_digit s (length s - n) (length s) → without_last_digits s ≡ without_last_digits (take (length s - n) s)
cut_digit s n h =
    let front : Text = take (length s - n) s in
    let tail : drop (length s - n) s ≡ h.0 ∷ drop (length s) s = drop_at_char h.0 s (length s - n) (length s) h.2 (digit_ascii h.0 h.1) in
    let end : drop (length s) s ≡ [] = drop_all (length s) s (omega arith) in
    let split : s ≡ front ++ (h.0 ∷ []) = sym (take-append-drop (length s - n) s) ∙ ap (λ t. front ++ t) (tail ∙ ap (λ t. h.0 ∷ t) end) in
    let back : reverse s ≡ h.0 ∷ reverse front = ap reverse split ∙ reverse-append front (h.0 ∷ []) in
    ap (λ t. reverse (dropped_digits t)) back ∙ rw h.1 refl

cut_digits : (R : Text → Option ℕ → Type 0) → ((s : Text) (o : Option ℕ) → R s o → FindsSuffixBy is_digit s o) → (ns : List ℕ) (s r : Text) → CutsSuffixes R s ns r → without_last_digits s ≡ without_last_digits r
cut_digits R finds [] s r h = ap without_last_digits (sym h)
cut_digits R finds (n ∷ ns) s r h =
    cut_digits R finds ns s h.0 h.1 ∙ (cut_digit h.0 n (finds h.0 (Some n) h.2) ∙ ap without_last_digits (sym h.3))

no_digit : (r : Text) (o : Option ℕ) → FindsSuffixBy is_digit r o → IfSome o (λ n. n ≡ 0) → without_last_digits r ≡ r
no_digit r (Some n) h z = absurd (omega (arith, h.2.ends, len_utf8_ascii h.0 (digit_ascii h.0 h.1)))
no_digit r None h z = kept (reverse r) refl where
  kept : (q : Text) → reverse r ≡ q → reverse (dropped_digits q) ≡ r
  kept [] e = sym (sym (reverse-reverse r) ∙ ap reverse e)
  kept (b ∷ bs) e = last (is_digit b) refl where
    whole : r ≡ reverse (b ∷ bs)
    whole = sym (reverse-reverse r) ∙ ap reverse e

    last : (v : Bool) → is_digit b ≡ v → reverse (dropped_digits (b ∷ bs)) ≡ r
    last true d =
        let ascii : b < 128 = digit_ascii b d in
        let scalar : IsScalar b = search rules in
        let split : r ≡ reverse bs ++ (b ∷ []) = whole ∙ reverse-append (b ∷ []) bs in
        let not : is_digit b ≡ false = h b (reverse bs) scalar (split ∙ ap (λ t. reverse bs ++ t) (sym (encode_ascii b ascii))) in
        absurd (cc)
    last false d = rw d (sym whole)

-- M says by which tests the pattern's characters are found
pub without_last_digits-trim : (M : (ℕ → Bool) → Type 0) → M is_digit → (s r : Text) → IsTrimEndMatches (λ t o. (k : ℕ → Bool) → M k → FindsSuffixBy k t o) s r → r ≡ without_last_digits s
without_last_digits-trim M digits s r h =
    let R : Text → Option ℕ → Type 0 = λ t o. (k : ℕ → Bool) → M k → FindsSuffixBy k t o in
    sym (no_digit r h.1.0 (h.1.1 is_digit digits) h.1.2) ∙ sym (cut_digits R (λ t o f. f is_digit digits) h.0.0 s r h.0.1)
