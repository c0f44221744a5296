-- Object rests leave nodes of the same kind and label, and exported declarations of the same names, where those don't split.
use Rattle.std.proofs.Common.{◌≡◌, inl, inr, refl, sym, ap, ◌∙◌, List, [], ◌∷◌, ◌++◌}
use Rattle.std.specs.Prelude.{Bool, true, false}
use Rattle.std.proofs.lemmas.List.{append-nil, append_assoc}
use Rattle.es_tree.specs.BoundNames.{bound_identifiers, bound_in_trees}
use Rattle.es_tree.specs.HasForm.{same_type}
use Rattle.es_tree.specs.Tree.{Tree, node, Label, done, ◌then◌, one, Trees, empty, ◌before◌, kind_of}
use Rattle.es_tree.specs.declared.ast_type.AstType.{AstType}
use Rattle.es_tree.specs.declared.ast_type.AstType.TheVariants.{Identifier, Program, RestElement}
use Rattle.es_steps.specs.CatchPatterns.{CatchRest}
use Rattle.es_steps.specs.CatchPatterns.CatchRest.{moves}
use Rattle.es_steps.specs.CoreRules.{where_on}
use Rattle.es_steps.specs.LoopHeads.{HeadRest, IsForEach, TargetHead}
use Rattle.es_steps.specs.LoopHeads.HeadRest.{lexical_head, var_head}
use Rattle.es_steps.specs.LoopHeads.IsForEach.{for_in, for_of}
use Rattle.es_steps.specs.LoopHeads.TargetHead.{target_head}
use Rattle.es_steps.specs.Nodes.{joined_trees}
use Rattle.es_steps.specs.ObjectRest.{SplitRule, TakesRest, and_declarator, declares_rest}
use Rattle.es_steps.specs.ObjectRest.SplitRule.{splits}
use Rattle.es_steps.specs.ObjectRest.TakesRest.{takes_rest}
use Rattle.es_steps.specs.ParameterPatterns.{ParameterRest}
use Rattle.es_steps.specs.ParameterPatterns.ParameterRest.{in_declaration, in_expression, in_arrow}
use Rattle.es_steps.specs.Rules.{either_rule}
use Rattle.es_steps.specs.Steps.{Ledger, Site, Spot}
use Rattle.es_steps.specs.Steps.Spot.{at_node}
use Rattle.es_steps.proofs.CatchRests.{catch-rest-only}
use Rattle.es_steps.proofs.FormRules.{AtNodes}
use Rattle.es_steps.proofs.Fronts.{Front, front-of}
use Rattle.es_steps.proofs.Fronts.Front.{of_none, of_some}
use Rattle.es_steps.proofs.Heads.{head-only, target-only}
use Rattle.es_steps.proofs.Parameters.{parameter-only}
use Rattle.es_module_names.specs.Modules.{bound_texts, declarator_texts, texts_among}
use Rattle.es_module_names.proofs.Readings.{texts_of}
use Rattle.es_valid_rests.specs.RestRules.{Binding, Unexported}
use Rattle.es_valid_rests.proofs.FacedSteps.{SameBeside}
use Rattle.es_valid_rests.proofs.RestFormsDeclared.{split-nodes, takes-nodes}
use Rattle.es_valid_rests.proofs.RestReads.{ReadLawful, SameRead}

-- NODES THAT MOVE

pub catch-read : ReadLawful CatchRest
catch-read = record { at_nodes = catch-rest-only; leaves = leaves; beside = beside; within = within }
  where
    leaves : (n : Site) (s s' : Ledger) (t u : Tree) → CatchRest n s (at_node t) s' (at_node u) → SameRead n.above t u
    leaves n s s' t u (moves holds fresh) = record { kind = refl; label = refl; bound = refl; declarator = refl; declared = λ e. refl; specifier = refl; request = refl; star = refl; exported = refl }

    beside : (n : Site) (s s' : Ledger) (t u : Tree) → CatchRest n s (at_node t) s' (at_node u) → SameBeside s s'
    beside n s s' t u (moves holds fresh) = record { pending = refl; this = refl; top = refl }

    within : (n : Site) (s s' : Ledger) (t u : Tree) → CatchRest n s (at_node t) s' (at_node u) → same_type (kind_of t) Program ≡ false
    within n s s' t u (moves holds fresh) = refl

no-loop-program : (k : AstType) → IsForEach k → same_type k Program ≡ false
no-loop-program k for_in = refl
no-loop-program k for_of = refl

pub head-read : ReadLawful HeadRest
head-read = record { at_nodes = head-only; leaves = leaves; beside = beside; within = within }
  where
    leaves : (n : Site) (s s' : Ledger) (t u : Tree) → HeadRest n s (at_node t) s' (at_node u) → SameRead n.above t u
    leaves n s s' t u (lexical_head for_in holds fresh lexical apart silent body) = record { kind = refl; label = refl; bound = refl; declarator = refl; declared = λ e. refl; specifier = refl; request = refl; star = refl; exported = refl }
    leaves n s s' t u (lexical_head for_of holds fresh lexical apart silent body) = record { kind = refl; label = refl; bound = refl; declarator = refl; declared = λ e. refl; specifier = refl; request = refl; star = refl; exported = refl }
    leaves n s s' t u (var_head for_in holds fresh variable none silent body) = record { kind = refl; label = refl; bound = refl; declarator = refl; declared = λ e. refl; specifier = refl; request = refl; star = refl; exported = refl }
    leaves n s s' t u (var_head for_of holds fresh variable none silent body) = record { kind = refl; label = refl; bound = refl; declarator = refl; declared = λ e. refl; specifier = refl; request = refl; star = refl; exported = refl }

    beside : (n : Site) (s s' : Ledger) (t u : Tree) → HeadRest n s (at_node t) s' (at_node u) → SameBeside s s'
    beside n s s' t u (lexical_head each holds fresh lexical apart silent body) = record { pending = refl; this = refl; top = refl }
    beside n s s' t u (var_head each holds fresh variable none silent body) = record { pending = refl; this = refl; top = refl }

    within : (n : Site) (s s' : Ledger) (t u : Tree) → HeadRest n s (at_node t) s' (at_node u) → same_type (kind_of t) Program ≡ false
    within n s s' t u (lexical_head {k = k} each holds fresh lexical apart silent body) = no-loop-program k each
    within n s s' t u (var_head {k = k} each holds fresh variable none silent body) = no-loop-program k each

pub target-read : ReadLawful TargetHead
target-read = record { at_nodes = target-only; leaves = leaves; beside = beside; within = within }
  where
    leaves : (n : Site) (s s' : Ledger) (t u : Tree) → TargetHead n s (at_node t) s' (at_node u) → SameRead n.above t u
    leaves n s s' t u (target_head for_in rest fresh silent quiet body) = record { kind = refl; label = refl; bound = refl; declarator = refl; declared = λ e. refl; specifier = refl; request = refl; star = refl; exported = refl }
    leaves n s s' t u (target_head for_of rest fresh silent quiet body) = record { kind = refl; label = refl; bound = refl; declarator = refl; declared = λ e. refl; specifier = refl; request = refl; star = refl; exported = refl }

    beside : (n : Site) (s s' : Ledger) (t u : Tree) → TargetHead n s (at_node t) s' (at_node u) → SameBeside s s'
    beside n s s' t u (target_head each rest fresh silent quiet body) = record { pending = refl; this = refl; top = refl }

    within : (n : Site) (s s' : Ledger) (t u : Tree) → TargetHead n s (at_node t) s' (at_node u) → same_type (kind_of t) Program ≡ false
    within n s s' t u (target_head {k = k} each rest fresh silent quiet body) = no-loop-program k each

pub parameter-read : ReadLawful ParameterRest
parameter-read = record { at_nodes = parameter-only; leaves = leaves; beside = beside; within = within }
  where
    leaves : (n : Site) (s s' : Ledger) (t u : Tree) → ParameterRest n s (at_node t) s' (at_node u) → SameRead n.above t u
    leaves n s s' t u (in_declaration fresh called moved) = record { kind = refl; label = refl; bound = refl; declarator = refl; declared = λ e. refl; specifier = refl; request = refl; star = refl; exported = refl }
    leaves n s s' t u (in_expression fresh called moved) = record { kind = refl; label = refl; bound = refl; declarator = refl; declared = λ e. refl; specifier = refl; request = refl; star = refl; exported = refl }
    leaves n s s' t u (in_arrow fresh moved) = record { kind = refl; label = refl; bound = refl; declarator = refl; declared = λ e. refl; specifier = refl; request = refl; star = refl; exported = refl }

    beside : (n : Site) (s s' : Ledger) (t u : Tree) → ParameterRest n s (at_node t) s' (at_node u) → SameBeside s s'
    beside n s s' t u (in_declaration fresh called moved) = record { pending = refl; this = refl; top = refl }
    beside n s s' t u (in_expression fresh called moved) = record { pending = refl; this = refl; top = refl }
    beside n s s' t u (in_arrow fresh moved) = record { pending = refl; this = refl; top = refl }

    within : (n : Site) (s s' : Ledger) (t u : Tree) → ParameterRest n s (at_node t) s' (at_node u) → same_type (kind_of t) Program ≡ false
    within n s s' t u (in_declaration fresh called moved) = refl
    within n s s' t u (in_expression fresh called moved) = refl
    within n s s' t u (in_arrow fresh moved) = refl

-- DECLARATIONS

split-texts : (ts us : List Tree) → texts_of (ts ++ us) ≡ texts_of ts ++ texts_of us
split-texts [] us = refl
split-texts (t ∷ ts) us = ap (λ xs. texts_of (t ∷ []) ++ xs) (split-texts ts us)

bound-joined : (ps : Trees) (lr : Label) (v : Tree) → texts_of (bound_in_trees (joined_trees ps (node RestElement lr (one v then done) before empty))) ≡ texts_of (bound_in_trees ps) ++ bound_texts v
bound-joined empty lr v = ap (λ xs. texts_of xs) (append-nil (bound_identifiers v))
bound-joined (p before ps) lr v =
    split-texts (bound_identifiers p) (bound_in_trees (joined_trees ps (node RestElement lr (one v then done) before empty))) ∙ ap (λ xs. texts_of (bound_identifiers p) ++ xs) (bound-joined ps lr v) ∙ sym (append_assoc (texts_of (bound_identifiers p)) (texts_of (bound_in_trees ps)) (bound_texts v)) ∙ ap (λ xs. xs ++ bound_texts v) (sym (split-texts (bound_identifiers p) (bound_in_trees ps)))

among-joined : (a xs ys : Trees) → texts_among declarator_texts ys ≡ texts_among declarator_texts xs → texts_among declarator_texts (joined_trees a ys) ≡ texts_among declarator_texts (joined_trees a xs)
among-joined empty xs ys e = e
among-joined (x before a) xs ys e = ap (λ zs. declarator_texts x ++ zs) (among-joined a xs ys e)

taken-own : (lp ls : Label) (ps fs c : Trees) (v e : Tree) → Front lp (node Identifier ls done) ps fs → texts_among declarator_texts (joined_trees (and_declarator fs v e) c) ≡ (texts_of (bound_in_trees ps) ++ bound_texts v) ++ texts_among declarator_texts c
taken-own lp ls ps fs c v e of_some = sym (append_assoc (texts_of (bound_in_trees ps)) (bound_texts v) (texts_among declarator_texts c))
taken-own lp ls ps fs c v e of_none = refl

taken-texts : (l lp lr ls : Label) (a ps fs c : Trees) (v e : Tree) → Front lp (node Identifier ls done) ps fs → texts_among declarator_texts (joined_trees a (joined_trees (and_declarator fs v e) c)) ≡ texts_among declarator_texts (joined_trees a (declares_rest l lp ps lr v (node Identifier ls done) before c))
taken-texts l lp lr ls a ps fs c v e h = among-joined a (declares_rest l lp ps lr v (node Identifier ls done) before c) (joined_trees (and_declarator fs v e) c) (taken-own lp ls ps fs c v e h ∙ ap (λ xs. xs ++ texts_among declarator_texts c) (sym (bound-joined ps lr v)))

pub takes-read : ReadLawful (Binding TakesRest)
takes-read = record { at_nodes = takes-nodes; leaves = leaves; beside = beside; within = within }
  where
    leaves : (n : Site) (s s' : Ledger) (t u : Tree) → Binding TakesRest n s (at_node t) s' (at_node u) → SameRead n.above t u
    leaves n s s' t u (takes_rest {fs = fs} {e = e} m l lp lr ls a ps c v r unbound used, binds) = record { kind = refl; label = refl; bound = refl; declarator = refl; declared = λ z. taken-texts l lp lr ls a ps fs c v e (front-of _ lp (node Identifier ls done) ps fs e r); specifier = refl; request = refl; star = refl; exported = refl }

    beside : (n : Site) (s s' : Ledger) (t u : Tree) → Binding TakesRest n s (at_node t) s' (at_node u) → SameBeside s s'
    beside n s s' t u (takes_rest m l lp lr ls a ps c v r unbound used, binds) = record { pending = refl; this = refl; top = refl }

    within : (n : Site) (s s' : Ledger) (t u : Tree) → Binding TakesRest n s (at_node t) s' (at_node u) → same_type (kind_of t) Program ≡ false
    within n s s' t u (takes_rest m l lp lr ls a ps c v r unbound used, binds) = refl

-- where it isn't exported
pub unexported-nodes : (n : Site) (s s' : Ledger) (x y : Spot) → Unexported (Binding SplitRule) n s x s' y → AtNodes x y
unexported-nodes n s s' x y h = split-nodes n s s' x y h.0

pub split-read : ReadLawful (Unexported (Binding SplitRule))
split-read = record { at_nodes = unexported-nodes; leaves = leaves; beside = beside; within = within }
  where
    leaves : (n : Site) (s s' : Ledger) (t u : Tree) → Unexported (Binding SplitRule) n s (at_node t) s' (at_node u) → SameRead n.above t u
    leaves n s s' t u ((splits m a c d es x free declares off, binds), out) = record { kind = refl; label = refl; bound = refl; declarator = refl; declared = λ e. absurd (cc (e, out)); specifier = refl; request = refl; star = refl; exported = refl }

    beside : (n : Site) (s s' : Ledger) (t u : Tree) → Unexported (Binding SplitRule) n s (at_node t) s' (at_node u) → SameBeside s s'
    beside n s s' t u ((splits m a c d es x free declares off, binds), out) = record { pending = refl; this = refl; top = refl }

    within : (n : Site) (s s' : Ledger) (t u : Tree) → Unexported (Binding SplitRule) n s (at_node t) s' (at_node u) → same_type (kind_of t) Program ≡ false
    within n s s' t u ((splits m a c d es x free declares off, binds), out) = refl

-- TOGETHER

pub both-read : {Q R : Site → Ledger → Spot → Ledger → Spot → Type 0} → ReadLawful Q → ReadLawful R → ReadLawful (either_rule Q R)
both-read {Q} {R} q r = record { at_nodes = at; leaves = leaves; beside = beside; within = within }
  where
    at : (n : Site) (s s' : Ledger) (x y : Spot) → either_rule Q R n s x s' y → AtNodes x y
    at n s s' x y (inl h) = q.at_nodes n s s' x y h
    at n s s' x y (inr h) = r.at_nodes n s s' x y h

    leaves : (n : Site) (s s' : Ledger) (t u : Tree) → either_rule Q R n s (at_node t) s' (at_node u) → SameRead n.above t u
    leaves n s s' t u (inl h) = q.leaves n s s' t u h
    leaves n s s' t u (inr h) = r.leaves n s s' t u h

    beside : (n : Site) (s s' : Ledger) (t u : Tree) → either_rule Q R n s (at_node t) s' (at_node u) → SameBeside s s'
    beside n s s' t u (inl h) = q.beside n s s' t u h
    beside n s s' t u (inr h) = r.beside n s s' t u h

    within : (n : Site) (s s' : Ledger) (t u : Tree) → either_rule Q R n s (at_node t) s' (at_node u) → same_type (kind_of t) Program ≡ false
    within n s s' t u (inl h) = q.within n s s' t u h
    within n s s' t u (inr h) = r.within n s s' t u h

pub on-read : (b : Bool) (R : Site → Ledger → Spot → Ledger → Spot → Type 0) → ReadLawful R → ReadLawful (where_on b R)
on-read true R h = h
on-read false R h = record { at_nodes = λ n s s' x y d. absurd d; leaves = λ n s s' t u d. absurd d; beside = λ n s s' t u d. absurd d; within = λ n s s' t u d. absurd d }
