use Rattle.std.proofs.Common.{arith, refl, [], ◌∷◌}
use Rattle.std.specs.Prelude.{Some}
use Rattle.es_tree.specs.Words.{variable_declaration_kind_text}
use Rattle.lower_temporaries.proofs.StoreLemmas.{made_declaration}
use Rattle.lower_temporaries.proofs.declarations.declaration.Goals as goal

pub returns-clause-made : goal.returns-clause-made
returns-clause-made c =
    made_declaration (variable_declaration_kind_text c.args.kind) (record { id = c.new_id.result.0; start = 0; stop = 0; texts = Some (variable_declaration_kind_text c.args.kind) ∷ []; flags = []; marks = [] })
    c.args.fields.items _ c.args.declarators.items refl refl c.requires.inert c.requires.memory (grind arith)
