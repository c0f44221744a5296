-- The marks and the reference of a node by itself, and the scope of a declaration.
use Rattle.std.proofs.Common.{◌≡◌, ℕ, Bool, true, false, if◌then◌else◌, Option, Some, None, List, [], ◌∷◌, refl, sym, ap, subst, ◌∙◌}
use Rattle.es_tree.specs.Heads.{Head, head_of, label, scope, symbol}
use Rattle.es_tree.specs.Names.{first_text}
use Rattle.es_tree.specs.Tree.{Label, Fields}
use Rattle.es_tree.specs.Words.{Text}
use Rattle.es_tree.specs.declared.ast_type.AstType.{AstType}
use Rattle.es_tree.specs.declared.ast_type.AstType.TheVariants.{Identifier}
use Rattle.es_tree.specs.declared.ids.NodeId.{NodeId}
use Rattle.es_tree.specs.declared.ids.ReferenceId.{ReferenceId}
use Rattle.es_tree.specs.declared.ids.SymbolId.{SymbolId}
use Rattle.es_tree.specs.declared.ids.Span.{Span}
use Rattle.es_tree.specs.declared.kind.Kind.{Kind}
use Rattle.es_tree.specs.declared.kind.Kind.TheVariants.{Identifier as k-Identifier}
use Rattle.std.proofs.Common.{String, Global}
use Rattle.es_scope.specs.PlainReferences.{plain_reference}
use Rattle.es_scope.specs.TableChanges.{HasReferenceMore}
use Rattle.es_scope.specs.Tables.{Finds}
use Rattle.es_scope.specs.declared.flags.ReferenceFlags.{ReferenceFlags}
use Rattle.es_scope.specs.declared.scoping.Scoping.{Scoping}
use Rattle.es_semantic.specs.Places.{Place, makes_scope, own_scope}
use Rattle.es_semantic.specs.Referring.{HasNames, HasReferencesMore, IsChain}
use Rattle.es_semantic.specs.ReferencesOf.{own_marks_of, own_reference, reference, referred, referring}
use Rattle.es_semantic.specs.ScopesOf.{ScopeRow}
use Rattle.es_semantic.specs.SymbolsOf.{Declared, find}
use Rattle.es_semantic.specs.Walks.{AreOwn, StandsAs}
use Rattle.es_semantic.specs.declared.place.Binding.{Binding}
use Rattle.es_semantic.specs.declared.place.OwnScopes.{OwnScopes}
use Rattle.es_semantic.specs.declared.place.Place.{Place as WalkPlace}
use Rattle.es_semantic.specs.declared.place.Role.{Role}
use Rattle.es_semantic.specs.declared.place.Role.TheVariants.{Nothing, Binds, Refers}
use Rattle.es_semantic.proofs.Chains.{finds_found}
use Rattle.es_semantic.proofs.MoreReferences.{references_none, references_one}

-- REFERENCES

pub none_referred : (s : Scoping) (r : Role) (id : ℕ) (o : Option ℕ) → referring r ≡ [] → HasReferencesMore s s (referred (referring r) id o)
none_referred s r id o e = subst (λ fs. HasReferencesMore s s (referred fs id o)) (sym e) (references_none s)

pub one_referred : (old new : Scoping) (r : Role) (f : ReferenceFlags) (id : ℕ) (o : Option ℕ) → referring r ≡ f ∷ [] → HasReferenceMore old new (reference id o f.read f.write) → HasReferencesMore old new (referred (referring r) id o)
one_referred old new r f id o e h = subst (λ fs. HasReferencesMore old new (referred fs id o)) (sym e) (references_one old new _ h)

-- the reference that an identifier is
pub identifier_referred : (old new : Scoping) (ds : List Declared) (p : Place) (k : AstType) (l : Label) (x : Text) → k ≡ Identifier → x ≡ first_text l.texts → HasReferencesMore old new (referred (referring p.role) l.id (find ds p.around x)) → HasReferencesMore old new (own_reference ds p k l)
identifier_referred old new ds p k l x ek ex h =
    let same : own_reference ds p k l ≡ referred (referring p.role) l.id (find ds p.around x) = rw (ek, ex) refl in
    subst (HasReferencesMore old new) (sym same) h

-- a name that was looked for from the innermost scope
pub found_symbol : (rows : List ScopeRow) (ds : List Declared) (old : Scoping) (p : Place) (held : WalkPlace) (x : Text) (o : Option ℕ) → StandsAs held p → HasNames rows ds old → IsChain rows p.around → Finds old x held.scope.0 o → o ≡ find ds p.around x
found_symbol rows ds old p held x o stands names chain finds =
    let outer : IsChain rows (held.scope.0 ∷ stands.outer) = subst (IsChain rows) stands.around chain in
    finds_found rows ds old x held.scope.0 o stands.outer names outer finds ∙ ap (λ up. find ds up x) (sym stands.around)

pub found_around : (rows : List ScopeRow) (ds : List Declared) (old new : Scoping) (id : NodeId) (f : ReferenceFlags) (p : Place) (held : WalkPlace) (x : Text) (symbol_id : Option SymbolId) → StandsAs held p → HasNames rows ds old → IsChain rows p.around → Finds old x held.scope.0 (symbol symbol_id) → HasReferenceMore old new (plain_reference (record { node = id; symbol = symbol_id; flags = f })) →
    HasReferenceMore old new (reference id.0 (find ds p.around x) f.read f.write)
found_around rows ds old new id f p held x symbol_id stands names chain finds more =
    let found = found_symbol rows ds old p held x (symbol symbol_id) stands names chain finds in
    subst (λ o. HasReferenceMore old new (reference id.0 o f.read f.write)) found more

-- what stands at a place that isn't one of names, where it is a name, reads it
pub role_default : (r : Role) → (r ≡ Nothing → ⊥) → ((b : Binding) → r ≡ Binds b → ⊥) → ((f : ReferenceFlags) → r ≡ Refers f → ⊥) → referring r ≡ record { read = true; write = false } ∷ []
role_default Nothing n b f = absurd (n refl)
role_default (Binds x) n b f = absurd (b x refl)
role_default (Refers x) n b f = absurd (f x refl)
role_default _ n b f = refl

pub other_none : (s : Scoping) (ds : List Declared) (p : Place) (k : AstType) (l : Label) → (k ≡ Identifier → ⊥) → HasReferencesMore s s (own_reference ds p k l)
other_none s ds p Identifier l h = absurd (h refl)
other_none s ds p _ l h = references_none s

-- MARKS

pub head_other : (k : Kind) → ((x : String Global) (y : Option ReferenceId) (z : Option SymbolId) → k ≡ k-Identifier x y z → ⊥) → (head_of k).kind ≡ Identifier → ⊥
head_other (k-Identifier x y z) h e = h x y z refl
head_other _ h e = absurd (cc)

other_marks : (ds : List Declared) (p : Place) (n m : ℕ) (k : AstType) (l : Label) (fs : Fields) → (k ≡ Identifier → ⊥) → own_marks_of ds p n m k l fs ≡ (if makes_scope k then Some (own_scope n k fs) ∷ [] else l.marks)
other_marks ds p n m Identifier l fs h = absurd (h refl)
other_marks ds p n m _ l fs h = refl

number_mark : (b : Bool) (o : Option ℕ) (n : ℕ) (marks : List (Option ℕ)) → o ≡ (if b then Some n else None) → (if b then o ∷ [] else marks) ≡ (if b then Some n ∷ [] else marks)
number_mark true o n marks e = ap (λ q. q ∷ []) e
number_mark false o n marks e = refl

pub scope_marks : (ds : List Declared) (p : Place) (n m : ℕ) (k : AstType) (l : Label) (fs : Fields) (own : OwnScopes) → (k ≡ Identifier → ⊥) → AreOwn own n k fs → (if makes_scope k then scope own.own ∷ [] else l.marks) ≡ own_marks_of ds p n m k l fs
scope_marks ds p n m k l fs own h o = number_mark (makes_scope k) (scope own.own) (own_scope n k fs) l.marks o.own_is ∙ sym (other_marks ds p n m k l fs h)

-- the label with its new marks
pub label_with : (id : NodeId) (span : Span) (h g : Head) (marks : List (Option ℕ)) → h.texts ≡ g.texts → h.flags ≡ g.flags → h.marks ≡ marks → label id span h ≡ record (label id span g) { marks = marks }
label_with id span h g marks e f k = rw (e, f, k) refl
