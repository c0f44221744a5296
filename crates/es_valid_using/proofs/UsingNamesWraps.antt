-- A statement that goes into the made block, where it stands for another: what is asked of it, and of places below it.
use Rattle.std.proofs.Common.{◌≡◌, ℕ, refl, sym, ap, subst, ◌∙◌, List, [], ◌∷◌, ◌++◌, append-nil, filter}
use Rattle.std.specs.Prelude.{Bool, true, false, not, ◌&&◌, ◌||◌, bytes_eq, codes, if◌then◌else◌}
use Rattle.es_tree.specs.Ancestors.{Ancestor, ancestor, is_module, scopes, stands_in}
use Rattle.es_tree.specs.DeclaredNames.{Name, bound_names, declaration_names, exports_of, function_names, is_at_top, is_class_key, lexical_names, names_in_scope, var_names}
use Rattle.es_tree.specs.CoreStaticRules.{is_lexical}
use Rattle.es_tree.specs.Names.{first_text}
use Rattle.es_tree.specs.HasForm.{same_type}
use Rattle.es_tree.specs.Tree.{Tree, Label, Fields, empty, ◌before◌, kind_of}
use Rattle.es_tree.specs.Words.{Text}
use Rattle.es_tree.specs.declared.ast_type.AstType.{AstType}
use Rattle.es_tree.specs.declared.ast_type.AstType.TheVariants.{BlockStatement, CatchClause, ForOfStatement, ForStatement, Identifier, Program, SwitchStatement, VariableDeclaration}
use Rattle.es_steps.specs.Rules.{next_name}
use Rattle.es_steps.specs.Steps.{Whole}
use Rattle.es_steps.specs.UsingBlocks.{error_name, error_of, protected, with_context}
use Rattle.es_valid_names.proofs.Claims.{Around, Clear, Distinct, Stand, claims, claims_all, elsewhere, is_owned}
use Rattle.es_valid_names.proofs.MoreAround.{Allows}
use Rattle.es_valid_using.proofs.UsingNamesBlocks.{context-names, made-apart, made_here, protected-clear}
use Rattle.es_valid_using.proofs.UsingNamesLists.{Moved}
use Rattle.es_valid_using.proofs.UsingNamesMade.{context_node, in_made, protected-moved, unkeyed}
use Rattle.es_valid_using.proofs.UsingNamesPlaces.{Less, Near, as_many}
use Rattle.es_valid_using.proofs.UsingNamesSteps.{NodeMoved, may_go}

-- KINDS below which nothing is bound but in scopes
pub record IsPlainKind (k : AstType) (i : ℕ) : Type 0 where
  pub bound : (l : Label) (fs : Fields) (n : ℕ) (up : List Ancestor) (x : Text) → bound_names (ancestor k l fs i n ∷ up) x ≡ []
  pub declaration : same_type k VariableDeclaration ≡ false
  pub key : (l : Label) (fs : Fields) (n : ℕ) → is_class_key (ancestor k l fs i n ∷ []) ≡ false
  pub top : (l : Label) (fs : Fields) (n : ℕ) (up : List Ancestor) → is_at_top (ancestor k l fs i n ∷ up) ≡ false
  pub catch : (l : Label) (fs : Fields) (n : ℕ) (up : List Ancestor) → stands_in CatchClause 1 (ancestor k l fs i n ∷ up) ≡ false
  pub program : same_type k Program ≡ false

pub plain-switch : (i : ℕ) → IsPlainKind SwitchStatement i
plain-switch i = record { bound = λ l fs n up x. refl; declaration = refl; key = λ l fs n. refl; top = λ l fs n up. refl; catch = λ l fs n up. refl; program = refl }

pub plain-for : (i : ℕ) → IsPlainKind ForStatement i
plain-for i = record { bound = λ l fs n up x. refl; declaration = refl; key = λ l fs n. refl; top = λ l fs n up. refl; catch = λ l fs n up. refl; program = refl }

pub plain-for-of : (i : ℕ) → IsPlainKind ForOfStatement i
plain-for-of i = record { bound = λ l fs n up x. refl; declaration = refl; key = λ l fs n. refl; top = λ l fs n up. refl; catch = λ l fs n up. refl; program = refl }

pub plain-block : IsPlainKind BlockStatement 0
plain-block = record { bound = λ l fs n up x. refl; declaration = refl; key = λ l fs n. refl; top = λ l fs n up. refl; catch = λ l fs n up. refl; program = refl }

-- places in nodes of such kinds, where their scopes are alike
module _ (go : Bool) {k j : AstType} {i o : ℕ} (p : IsPlainKind k i) (q : IsPlainKind j o) (l m : Label) (fs gs : Fields) (n r : ℕ) (us vs : List Ancestor) where
  abbrev up : List Ancestor
  up = ancestor k l fs i n ∷ us

  abbrev vp : List Ancestor
  vp = ancestor j m gs o r ∷ vs

  no-declaration : (a : Ancestor) (ws : List Ancestor) (x : Text) → same_type a.kind VariableDeclaration ≡ false → declaration_names (a ∷ ws) x ≡ []
  no-declaration a ws x e = λ z. if e z then (if is_lexical (first_text a.label.texts) then lexical_names ws x else var_names ws x) ++ exports_of ws x else []

  pub near-plain : ((x : Text) → filter is_owned (var_names vp x) ≡ filter is_owned (var_names up x)) → ((x : Text) (b : Bool) → Less go (names_in_scope (scopes up) x b) (names_in_scope (scopes vp) x b)) → is_module vs ≡ is_module us → Near go up vp
  near-plain vars heads same = record {
    functions = λ x. subst (λ (v : Bool). Less go (names_in_scope (scopes up) x (not v)) (function_names vp x)) (sym (p.top l fs n us)) (subst (λ (v : Bool). Less go (names_in_scope (scopes up) x true) (names_in_scope (scopes vp) x (not v))) (sym (q.top m gs r vs)) (heads x true));
    others = record {
      vars = vars;
      heads = heads;
      in_module = (λ z. (q.program z && bytes_eq (first_text m.texts) (codes "module")) || is_module vs) ∙ same ∙ sym (λ z. (p.program z && bytes_eq (first_text l.texts) (codes "module")) || is_module us);
      catch = q.catch m gs r vs ∙ sym (p.catch l fs n us);
      bound = λ x. as_many (λ z. filter is_owned ((q.bound m gs r vs x ∙ sym (p.bound l fs n us x)) z));
      declaration = λ x. as_many (λ z. filter is_owned ((no-declaration (ancestor j m gs o r) vs x q.declaration ∙ sym (no-declaration (ancestor k l fs i n) us x p.declaration)) z));
      private = λ x. ap (λ ns. filter is_owned ns) (unkeyed (ancestor j m gs o r) vs x (q.key m gs r) ∙ sym (unkeyed (ancestor k l fs i n) us x (p.key l fs n)));
    };
  }

-- A STATEMENT IN THE MADE BLOCK in place of another

-- some lists that are apart, of which what is declared in the made block comes
pub record Apart (used used' : Text → Bool) (u : Tree) : Type 0 where
  pub lists : List (List Name)
  pub apart : Distinct used [] lists
  pub moved : Moved used used' true lists (claims is_owned made_here u)

pub record Wrapped (used used' : Text → Bool) (t u : Tree) : Type 0 where
  pub moved : (up : List Ancestor) → Moved used used' (may_go up) (claims is_owned up t) (claims is_owned (in_made up) u)
  pub own : (c : Around) → c.used ≡ used → (st : Stand) → Clear c st t → Apart used used' u
  pub clear : (c d : Around) → c.used ≡ used → d.used ≡ used' → Allows c d → (st : Stand) → Clear c st t → Clear d elsewhere u
  pub name : same_type (kind_of t) Identifier ≡ false
  pub inside : same_type (kind_of t) Program ≡ false

pub wrapped-moved : (w : Whole) (x : Text) → w.in_use x ≡ false → (b : Bool) (t u : Tree) → Wrapped w.in_use (with_context x w).in_use t u → NodeMoved w.in_use (with_context x w).in_use b t (protected (next_name w x) (error_of w) (u before empty))
wrapped-moved w x free b t u h =
    let names = context-names w x free in
    record {
      moved = λ up e. protected-moved w.in_use (with_context x w).in_use (may_go up) up (next_name w x) (error_of w) (u before empty) (claims is_owned up t) names.context (subst (λ (gs : List (List Name)). Moved w.in_use (with_context x w).in_use (may_go up) (claims is_owned up t) gs) (sym (append-nil (claims is_owned (in_made up) u))) (h.moved up));
      clear = λ c d e g allows st stand l body k.
          let own = h.own c e st k in
          let all : Distinct (with_context x w).in_use [] (claims is_owned made_here (context_node (next_name w x)) ++ claims_all is_owned made_here (u before empty)) = made-apart w x free (u before empty) own.lists true (subst (λ (gs : List (List Name)). Moved w.in_use (with_context x w).in_use true own.lists gs) (sym (append-nil (claims is_owned made_here u))) own.moved) own.apart in
          protected-clear d st (next_name w x) (error_of w) (u before empty) (subst (λ (v : Text → Bool). Distinct v [] (claims is_owned made_here (context_node (next_name w x)) ++ claims_all is_owned made_here (u before empty))) (sym g) all) (ap (λ v. v error_name) g ∙ names.error) (h.clear c d e g allows st k, tt);
      name = sym h.name;
      key = λ e. absurd (cc e);
      inside = h.inside;
    }
