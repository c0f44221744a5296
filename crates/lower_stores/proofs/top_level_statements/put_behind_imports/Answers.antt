use Rattle.std.proofs.Common.{◌≡◌, ◌++◌, ◌∙◌, append_assoc, ap, arith, drop, length, length-append, sym, take}
use Rattle.std.proofs.lemmas.List.{length-take-le, take-append-drop}
use Rattle.lower_stores.specs.TopLevel.{imports_before}
use Rattle.lower_stores.proofs.TopLevelLemmas.{all_written, behind_imports-parts, imports_before-le}
use Rattle.lower_stores.proofs.top_level_statements.put_behind_imports.Goals as goal

pub rotate_behind-requires : goal.rotate_behind-requires
rotate_behind-requires c =
    let ss = c.args.body.now.items in
    let n = c.imports_before-first.ensures ∙ ap imports_before c.deref.ensures.value in
    let within = imports_before-le ss in
    let whole = ap length c.deref.ensures.value in
    omega (arith, n, within, whole, c.deref.ensures.len, c.len-count.ensures, c.deref_mut.ensures.len, c.in_ok-append.ensures.len)

pub returns-clause-written : goal.returns-clause-written
returns-clause-written c =
    let ss = c.args.body.now.items in
    let ts = c.args.stmts.now.items in
    let n = c.imports_before-first.result in
    let counted : n ≡ imports_before ss = c.imports_before-first.ensures ∙ ap imports_before c.deref.ensures.value in
    let within = imports_before-le ss in
    let whole : c.deref_mut.result.now ≡ take n ss ++ (drop n ss ++ ts) =
    c.deref_mut.ensures.value ∙ c.in_ok-append.ensures.items ∙ ap (λ l. l ++ ts) (sym (take-append-drop n ss)) ∙ append_assoc (take n ss) (drop n ss) ts in
    let fronts : length (take n ss) ≡ n = length-take-le n ss (omega (arith, within, counted)) in
    let lasts : length ts ≡ c.len-count.result = sym (c.len-count.ensures ∙ c.args.stmts.now.ok.0) in
    let rotated = c.rotate_behind.ensures (take n ss) (drop n ss) ts whole fronts lasts in
    let lengths = ap length rotated in
    let one = length-append (take n ss) (ts ++ drop n ss) in
    let two = length-append ts (drop n ss) in
    let three = length-append (take n ss) (drop n ss ++ ts) in
    let four = length-append (drop n ss) ts in
    let five = ap length whole in
    all_written c.rotate_behind.new.statements _ c.append.new.self.len (omega (arith, lengths, one, two, three, four, five, c.deref_mut.ensures.len))
    ∙ rotated ∙ ap (λ n. take n ss ++ (ts ++ drop n ss)) counted ∙ sym (behind_imports-parts ts ss)
