-- What is known of an end's bytes, over several calls.
use Rattle.std.proofs.Common.{◌≡◌, ◌+◌, ◌-◌, ℕ, List, [], ◌++◌, length, take, drop, arith, length-drop, Option, Some, None, refl, sym, ◌∙◌, ap, subst, append_assoc}
use Rattle.std.proofs.Math.Seq.{take-add}
use Rattle.std.proofs.lemmas.List.{append-nil, take_all}
use Rattle.std.specs.Io.KnownBytes.{append_known, prepend_known, IsAtEnd}
use Rattle.lower_command.specs.Ends.{ReadWhole}

pub append_known-append : (known : Option (List ℕ)) (xs ys : List ℕ) → append_known (append_known known xs) ys ≡ append_known known (xs ++ ys)
append_known-append None xs ys = refl
append_known-append (Some zs) xs ys = ap Some (append_assoc zs xs ys)

pub append_known-nil : (known : Option (List ℕ)) → append_known known [] ≡ known
append_known-nil None = refl
append_known-nil (Some zs) = ap Some (append-nil zs)

pub prepend_known-append : (xs ys : List ℕ) (known : Option (List ℕ)) → prepend_known xs (prepend_known ys known) ≡ prepend_known (xs ++ ys) known
prepend_known-append xs ys None = refl
prepend_known-append xs ys (Some zs) = ap Some (sym (append_assoc xs ys zs))

pub prepend_known-nil : (known : Option (List ℕ)) → prepend_known [] known ≡ known
prepend_known-nil None = refl
prepend_known-nil (Some zs) = refl

-- what is left of a text after its first bytes
pub rest_of : (text : List ℕ) (done : ℕ) → take (length text - done) (drop done text) ≡ drop done text
rest_of text done = take_all (length text - done) (drop done text) (omega (arith, length-drop done text))

-- one more write takes the text's next bytes
pub written_more : (old mid new : Option (List ℕ)) (text : List ℕ) (done count : ℕ)
    → mid ≡ append_known old (take done text) → new ≡ append_known mid (take count (take (length text - done) (drop done text)))
    → new ≡ append_known old (take (done + count) text)
written_more old mid new text done count before now =
    now ∙ ap (λ (rest : List ℕ). append_known mid (take count rest)) (rest_of text done)
    ∙ ap (λ known. append_known known (take count (drop done text))) before ∙ append_known-append old _ _
    ∙ ap (append_known old) (sym (take-add done count text))

-- one more read gives the next bytes
pub read_more : (old mid new : Option (List ℕ)) (bytes more : List ℕ)
    → old ≡ prepend_known bytes mid → mid ≡ prepend_known more new → old ≡ prepend_known (bytes ++ more) new
read_more old mid new bytes more before now =
    before ∙ ap (prepend_known bytes) now ∙ prepend_known-append bytes more new

-- what was read up to the end is all there was
pub read_whole : (old new : Option (List ℕ)) (bytes : List ℕ) → old ≡ prepend_known bytes new → IsAtEnd new → ReadWhole old new bytes
read_whole old None bytes read end = subst (λ known. ReadWhole known None bytes) (sym read) refl
read_whole old (Some left) bytes read end =
    subst (λ known. ReadWhole known (Some left) bytes) (sym read) (ap (λ l. bytes ++ l) end ∙ append-nil bytes, ap Some end)
