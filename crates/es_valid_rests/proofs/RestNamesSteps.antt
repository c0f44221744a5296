-- Steps of rules that pend nothing keep the rules of declared names, where one name may come that no `var` declares: at whatever places
-- they act.
use Rattle.std.proofs.Common.{◌≡◌, List}
use Rattle.std.specs.Prelude.{true, Some}
use Rattle.es_tree.specs.Ancestors.{Ancestor}
use Rattle.es_tree.specs.HasForm.{has_form, same_type}
use Rattle.es_tree.specs.StaticRules.{is_constructor_key}
use Rattle.es_tree.specs.Tree.{Tree, kind_of}
use Rattle.es_tree.specs.Words.{Text}
use Rattle.es_tree.specs.declared.ast_type.AstType.TheVariants.{Identifier}
use Rattle.es_tree.specs.declared.table.Sort.{Sort}
use Rattle.es_steps.specs.Open.{is_import}
use Rattle.es_steps.specs.Steps.{Ledger, Site, Spot}
use Rattle.es_steps.specs.Steps.Spot.{at_node}
use Rattle.es_steps.proofs.Taken.{pending_in, this_in, top_in}
use Rattle.es_valid_names.proofs.Claims.{claims, is_owned}
use Rattle.es_valid_names.proofs.ClearRules.{StaysClear, use_in}
use Rattle.es_valid_rests.proofs.RestNamesWide.{Wide}

-- WHAT A RULE LEAVES

-- nothing is pending that wasn't
pub record Beside (s s' : Ledger) : Type 0 where
  pub pending : pending_in s' ≡ pending_in s
  pub this : this_in s' ≡ this_in s
  pub top : top_in s' ≡ top_in s
  pub more : (x : Text) → use_in s x ≡ true → use_in s' x ≡ true

pub record WideNode (s s' : Ledger) (t u : Tree) : Type 0 where
  pub wide : (up : List Ancestor) → Wide (use_in s) (use_in s') (claims is_owned up t) (claims is_owned up u)
  pub clear : StaysClear s s' t u
  pub name : same_type (kind_of u) Identifier ≡ same_type (kind_of t) Identifier
  pub key : is_constructor_key (Some u) ≡ true → is_constructor_key (Some t) ≡ true
  pub imports : is_import u ≡ is_import t
  pub beside : Beside s s'

pub record WideLawful (R : Site → Ledger → Spot → Ledger → Spot → Type 0) : Type 0 where
  pub at_nodes : (n : Site) (s s' : Ledger) (t u : Tree) (a : Sort) → R n s (at_node t) s' (at_node u) → has_form a t ≡ true → WideNode s s' t u
