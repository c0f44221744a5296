-- Where constructors stand looks at no mark and no id.
use Rattle.std.proofs.Common.{◌≡◌, ◌&&◌, ◌==◌, ℕ, zero, suc, bytes_eq, codes, if◌then◌else◌, is_some, refl}
use Rattle.es_tree.specs.Ancestors.{is_class}
use Rattle.es_tree.specs.Bare.{bare_fields, bare_label}
use Rattle.es_tree.specs.Children.{child_at}
use Rattle.es_tree.specs.HasForm.{same_type}
use Rattle.es_tree.specs.Names.{first_text}
use Rattle.es_tree.specs.Tree.{Label, Fields, done, ◌then◌, missing, one, many, statements}
use Rattle.es_tree.specs.declared.ast_type.AstType.{AstType}
use Rattle.es_tree.specs.declared.ast_type.AstType.TheVariants.{FunctionExpression, MethodDefinition}
use Rattle.es_super_calls.specs.Constructors.{is_constructor, is_member, standing_in}
use Rattle.es_super_calls.specs.declared.standing.ClassStanding.{ClassStanding}
use Rattle.es_super_calls.specs.declared.standing.ClassStanding.TheVariants.{Body, Constructor, Elsewhere, Member}

child-bare : (i : ℕ) (fs : Fields) → is_some (child_at i (bare_fields fs)) ≡ is_some (child_at i fs)
child-bare i done = refl
child-bare zero (missing then fs) = refl
child-bare zero (one t then fs) = refl
child-bare zero (many ts then fs) = refl
child-bare zero (statements ts then fs) = refl
child-bare (suc i) (f then fs) = child-bare i fs

pub standing-bare : (s : ClassStanding) (k : AstType) (l : Label) (fs : Fields) (i : ℕ) → standing_in s k (bare_label l) (bare_fields fs) i ≡ standing_in s k l fs i
standing-bare s k l fs i = λ j.
    if is_class k && i == 2 && child-bare 1 fs j then Member
    else if is_member s && same_type k MethodDefinition && i == 1 && bytes_eq (first_text l.texts) (codes "constructor") then Constructor
    else if is_constructor s && same_type k FunctionExpression && i == 2 then Body
    else Elsewhere
