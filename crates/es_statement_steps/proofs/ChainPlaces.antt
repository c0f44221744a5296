-- Optional chaining, from what is known of the place where it acts: no tag is a chain, and the rules of places are kept.
use Rattle.std.proofs.Common.{◌≡◌, ℕ, zero, suc, refl, sym, subst, List, [], ◌∷◌}
use Rattle.std.specs.Prelude.{Bool, true}
use Rattle.es_tree.specs.Ancestors.{Ancestor, ancestor, place_of}
use Rattle.es_tree.specs.HasForm.{has_form}
use Rattle.es_tree.specs.Tree.{Tree, node, Label, Fields, done, ◌then◌, Field, missing, one, many, statements, Trees, empty, ◌before◌}
use Rattle.es_tree.specs.declared.ast_type.AstType.{AstType}
use Rattle.es_tree.specs.declared.ast_type.AstType.TheVariants.{ParenthesizedExpression, Program, TaggedTemplateExpression}
use Rattle.es_tree.specs.declared.table.Sort.TheVariants.{Program as s-Program}
use Rattle.es_runs.specs.Alike.{Level}
use Rattle.es_resolution.proofs.Forms.{form-placed}
use Rattle.es_steps.specs.Open.{finished_fields}
use Rattle.es_steps.specs.Steps.{Site, Whole, site_in, the_program}
use Rattle.es_valid_steps.specs.PlaceRules.{Keeps, KeepsAll, KeepsBy, KeepsHere, KeepsIn}
use Rattle.es_statement_runs.specs.Helpers.Supply.{no_helpers}
use Rattle.es_statement_runs.specs.Places.{Take}
use Rattle.es_statement_steps.proofs.Below.{Below, BelowField, BelowTrees, both_below, map_below}
use Rattle.es_statement_steps.proofs.ChainLevels.{Special, met}
use Rattle.es_statement_steps.proofs.ChainMarks.{is_spine, none-strays, strays-here}
use Rattle.es_statement_steps.proofs.ChainTags.{Untagged, untagged-inside, untagged-tag}
use Rattle.es_statement_steps.proofs.Chainings.{ChainingRow, Meets, chaining-alike, chaining-shape, is_chain}
use Rattle.es_statement_steps.proofs.DeclaredNames.{Child, children_of, from_children}
use Rattle.es_statement_steps.proofs.Premises.{Inwards, Premise, RowWith}
use Rattle.es_statement_steps.proofs.RowRuns.{KeepsRuns}
use Rattle.es_statement_steps.proofs.RowsHere.{Operands, chaining-here}
use Rattle.es_statement_steps.proofs.Stands.{Standing, standing}
use Rattle.es_statement_steps.proofs.StepMoves.{Fine, taken_at}

-- THE PREMISE: what the place of a chain takes is taken there by the machine too

pub record ChainsHere (n : Site) (w : Whole) (a : Tree) : Type 0 where
  pub fine : Fine a
  pub untagged : Untagged a
  pub up : List Ancestor
  pub keeps : Keeps up a
  pub meets : is_chain a ≡ true → Meets n.need.level (taken_at n.above).need.level

-- BELOW A NODE

keeps-trees : (up : List Ancestor) (ts : Trees) → KeepsAll up ts → BelowTrees (λ t. Keeps up t) ts
keeps-trees up empty h = tt
keeps-trees up (t before ts) h = (h.0, keeps-trees up ts h.1)

keeps-field : (up : List Ancestor) (f : Field) → KeepsBy up f → BelowField (λ t. Keeps up t) f
keeps-field up missing h = tt
keeps-field up (one t) h = h
keeps-field up (many ts) h = keeps-trees up ts h
keeps-field up (statements ts) h = keeps-trees up ts h

keeps-below : (up : List Ancestor) (k : AstType) (l : Label) (all : Fields) (at : ℕ → ℕ) → ((i : ℕ) → suc (at i) ≡ at (suc i)) → (fs : Fields) → KeepsIn up k l all (at zero) fs → Below (λ i t. Keeps (ancestor k l all (at i) 0 ∷ up) t) fs
keeps-below up k l all at next done h = tt
keeps-below up k l all at next (f then fs) h =
    (keeps-field (ancestor k l all (at zero) 0 ∷ up) f h.0, keeps-below up k l all (λ i. at (suc i)) (λ i. next (suc i)) fs (subst (λ (i : ℕ). KeepsIn up k l all i fs) (next zero) h.1))

kept-here : (up : List Ancestor) (t : Tree) → Keeps up t → KeepsHere up t
kept-here up (node k l fs) h = h.0

-- tags, and what stands in parentheses
special-below : (k : AstType) (l : Label) (fs : Fields) (here there : Level) → Standing k l fs → Untagged (node k l fs) → (is_chain (node k l fs) ≡ true → Meets here there) → Below (λ i t. Special k here there i t) fs
special-below TaggedTemplateExpression l (one t then fs) here there s e h =
    (untagged-tag l (one t then fs) e, map_below (λ i t. Child TaggedTemplateExpression (suc i) t) (λ i t. Special TaggedTemplateExpression here there (suc i) t) (λ i t c. tt) fs (children_of TaggedTemplateExpression l (one t then fs) s).1)
special-below TaggedTemplateExpression l done here there s e h = absurd (let no = s.shape in cc no)
special-below TaggedTemplateExpression l (missing then fs) here there s e h = absurd (let no = s.shape in cc no)
special-below TaggedTemplateExpression l (many ts then fs) here there s e h = absurd (let no = s.shape in cc no)
special-below TaggedTemplateExpression l (statements ts then fs) here there s e h = absurd (let no = s.shape in cc no)
special-below ParenthesizedExpression l (one t then done) here there s e h = (h, tt)
special-below ParenthesizedExpression l (one t then (f then fs)) here there s e h = absurd (let no = s.shape in cc no)
special-below ParenthesizedExpression l done here there s e h = absurd (let no = s.shape in cc no)
special-below ParenthesizedExpression l (missing then fs) here there s e h = absurd (let no = s.shape in cc no)
special-below ParenthesizedExpression l (many ts then fs) here there s e h = absurd (let no = s.shape in cc no)
special-below ParenthesizedExpression l (statements ts then fs) here there s e h = absurd (let no = s.shape in cc no)
special-below k l fs here there s e h = map_below (λ i t. Child k i t) (λ i t. Special k here there i t) (λ i t c. tt) fs (children_of k l fs s)

pub chains-inwards : Inwards ChainsHere
chains-inwards n w k l fs h =
    let gs = finished_fields fs in
    let s = standing k l gs h.fine in
    let here = n.need.level in
    let there = (taken_at n.above).need.level in
    from_children k l gs (λ i t. Untagged t × (Keeps (ancestor k l gs i 0 ∷ h.up) t × Special k here there i t)) (λ i t. ChainsHere (site_in n k l fs i) w t) s
    (both_below (λ i t. Untagged t) (λ i t. Keeps (ancestor k l gs i 0 ∷ h.up) t × Special k here there i t) gs (untagged-inside k l gs h.untagged)
    (both_below (λ i t. Keeps (ancestor k l gs i 0 ∷ h.up) t) (λ i t. Special k here there i t) gs (keeps-below h.up k l gs (λ i. i) (λ i. refl) gs h.keeps.1) (special-below k l gs here there s h.untagged h.meets)))
    (λ i t p c. record {
      fine = c.nodes;
      untagged = p.0;
      up = ancestor k l gs i 0 ∷ h.up;
      keeps = p.1.0;
      meets = λ e. met (place_of h.up) l n.need (taken_at n.above) t e k i (record { pattern = c.stands_there.pattern; part = c.stands_there.part; target = (kept-here (ancestor k l gs i 0 ∷ h.up) t p.1.0).target; special = p.1.1 });
    })

-- at the top no chain stands
program-chain : (p : Tree) → has_form s-Program p ≡ true → is_chain p ≡ true → ⊥
program-chain (node k l fs) h c = let e : k ≡ Program = (form-placed (node k l fs) h).0 in let no : is_chain (node Program l fs) ≡ true = subst (λ (j : AstType). is_chain (node j l fs) ≡ true) e c in cc no

pub chains-program : (w : Whole) (p : Tree) → has_form s-Program p ≡ true → Fine p → Untagged p → Keeps [] p → ChainsHere the_program w p
chains-program w p form fine untagged keeps = record { fine = fine; untagged = untagged; up = []; keeps = keeps; meets = λ c. absurd (program-chain p form c) }

-- THE ROW

abbrev pub ChainPlace : Premise
ChainPlace n w a = Operands n w a × ChainsHere n w a

pub chaining-keeps-here : (no_all : Bool) → KeepsRuns no_all no_helpers true (RowWith (ChainingRow no_all) (chaining-shape no_all) ChainPlace)
chaining-keeps-here no_all = record {
  alike = λ new n whole a b h t taken ds resolved found fine away quiet stack seen w v same known ls x.
      let chains = h.1.1 in
      let tidy = strays-here no_all n whole new a b h.0.rule (is_spine (place_of chains.up)) (none-strays chains.up a chains.keeps) in
      chaining-alike no_all new n whole a b (chaining-here no_all new n whole a b h.0 h.1.0 tidy) t (λ c. subst (λ (q : Take). Meets n.need.level q.need.level) (sym taken) (chains.meets c)) ds resolved found fine away quiet w v same known ls x;
}
