-- Hooks that do nothing, of a type that keeps no pairs and acts at one hook alone.
use Rattle.std.proofs.Common.{◌≡◌, ◌∙◌, ◌||◌, ◌+◌, ℕ, refl, sym, ap, subst, arith, inl, Bool, true, false, true≢false}
use Rattle.es_tree.specs.Tree.{Tree, Fields, done, ◌then◌, missing, one, many, statements, Trees, empty, ◌before◌, kind_of, label_of, fields_of, Label}
use Rattle.es_tree.specs.declared.options.EnvOptions.{EnvOptions}
use Rattle.es_steps.specs.Steps.{Site}
use Rattle.es_steps.specs.Steps.Steps.{stays}
use Rattle.es_visit.specs.declared.hook.Hook.{Hook}
use Rattle.es_visit.specs.declared.hook.Hook.TheVariants.{Expression, Statement}
use Rattle.es_visit.specs.Calls.{Goes, GoesOut, GoesOutOfList}
use Rattle.es_changes.specs.Changes.{Kept}
use Rattle.es_changes.specs.Conditions.{holds_after}
use Rattle.es_changes.specs.Moments.{Moment}
use Rattle.es_traverse.specs.Laws.{Entered, EnteredAs, EnteredWhere, EnteredList, EnteredParameters, ExitedBody, ExitedList, ExitedParameters, ExitedProgram, Known, OnlyAt, PassesOn, Profile, anywhere, body_field, no_ending, opens_body, opens_list, Exited}
use Rattle.es_traverse.specs.Listed.{any_among, any_listed}
use Rattle.es_traverse.specs.Loads.{writing_by}
use Rattle.es_traverse.specs.Sites.{Tells}
use Rattle.es_traverse.specs.declared.site.Site.{Site as CodeSite}
use Rattle.es_traverse.proofs.Kept.{kept-none}
use Rattle.es_tree.specs.declared.ast_type.AstType.{AstType}
use Rattle.es_traverse.proofs.Outward.{none-anywhere}

-- LISTS AND BODIES

pub kept-entered-list : (keeps : Bool) → keeps ≡ false → (a : Moment) (w s : ℕ) → Kept (opens_list keeps a) w s a w s
kept-entered-list true e a w s = absurd (true≢false e)
kept-entered-list false e a w s = kept-none a w s

pub kept-exited-list : (keeps : Bool) → keeps ≡ false → (a : Moment) (w s : ℕ) → Kept a w s (opens_list keeps a) w s
kept-exited-list true e a w s = absurd (true≢false e)
kept-exited-list false e a w s = kept-none a w s

pub kept-exited-body : (keeps : Bool) → keeps ≡ false → (a : Moment) (t : Tree) (w s : ℕ) → Kept a (w + writing_by keeps) s (opens_body keeps t a) w s
kept-exited-body true e a t w s = absurd (true≢false e)
kept-exited-body false e a t w s =
    let same = kept-none a w s in
    record { level = same.level; around = same.around; options = same.options; counted = same.counted; lighter = omega arith; nodes = same.nodes }

pub opens-no-body : (keeps : Bool) → keeps ≡ false → (t : Tree) (a : Moment) → a ≡ opens_body keeps t a
opens-no-body true e t a = absurd (true≢false e)
opens-no-body false e t a = refl

-- nothing is taken away after the program by a type that does nothing there
none-among : (ts : Trees) → any_among no_ending.constructs ts ≡ false
none-among empty = refl
none-among (t before ts) = none-among ts

pub none-listed : (fs : Fields) → any_listed no_ending.constructs fs ≡ false
none-listed done = refl
none-listed (missing then fs) = none-listed fs
none-listed (one t then fs) = none-listed fs
none-listed (many ts then fs) = none-listed fs
none-listed (statements ts then fs) = ap (λ b. b || any_listed no_ending.constructs fs) (none-among ts) ∙ none-listed fs

module _ (p : Profile) (a : Moment) where
  pub entered-list-none : (keeps : Bool) → keeps ≡ false → (ts : Trees) → EnteredList p keeps a ts a ts
  entered-list-none true e ts = absurd (true≢false e)
  entered-list-none false e ts = record { stepped = λ n f k o. stays; leaves = λ n f k. k }

  pub exited-list-none : (keeps : Bool) → keeps ≡ false → (ts : Trees) → ExitedList p keeps a ts a ts
  exited-list-none true e ts = absurd (true≢false e)
  exited-list-none false e ts = record { stepped = λ n f k o. stays; none = λ test own h. h; hooks = omega arith }

  pub entered-parameters-none : (ts : Trees) → EnteredParameters p a ts a ts
  entered-parameters-none ts = record { stepped = λ n f k. stays; leaves = λ n f k. k }

  pub exited-parameters-none : (ts : Trees) → ExitedParameters p a ts a ts
  exited-parameters-none ts = record { stepped = λ n f k. stays; none = λ test own h. h; hooks = omega arith }

  pub exited-body-none : (keeps : Bool) → keeps ≡ false → (t : Tree) → ExitedBody p keeps a t a t
  exited-body-none true e t = absurd (true≢false e)
  exited-body-none false e t = record { closed = λ k. absurd (true≢false (sym k)); same = λ k. (refl, refl); none = λ test own h. h; hooks = omega arith }

  pub exited-program-none : (keeps : Bool) → keeps ≡ false → (t : Tree) → ExitedProgram p no_ending keeps a t a t
  exited-program-none true e t = absurd (true≢false e)
  exited-program-none false e t = record {
    stepped = λ v. stays;
    stays = λ v. v;
    cleared = λ v. none-listed (body_field t);
    finished = λ k. absurd (true≢false (sym k));
    directives = refl;
    none = λ test own h. h;
    none_listed = λ test own h. h;
  }

  -- NODES

  -- a hook that isn't the one where it acts
  pub entered-elsewhere : (at : Hook) → OnlyAt at p → (h : Hook) → (h ≡ at → ⊥) → ((at ≡ Expression → ⊥) → PassesOn p) → (c : CodeSite) (t : Tree) → EnteredAs p h c a t a t
  entered-elsewhere at only Expression other passes c t = record {
    stepped = λ n l f k. stays;
    left = λ n l f k. passes (λ e. other (sym e)) n t k;
    cleared = λ n l f k. only Expression other (kind_of t) (label_of t) (fields_of t);
    sort = λ g e. inl e;
    body = refl;
    order = inl refl;
  }
  entered-elsewhere at only Statement other passes c t = record {
    stepped = λ n l f k. stays;
    left = λ n l f k. k;
    cleared = λ n l f k. only Statement other (kind_of t) (label_of t) (fields_of t);
    sort = λ g e. inl e;
    body = refl;
    order = inl refl;
  }
  entered-elsewhere at only h other passes c t = record {
    stepped = λ n l f k. stays;
    left = λ n l f k. k;
    cleared = λ n l f k. only h other (kind_of t) (label_of t) (fields_of t);
    body = refl;
    order = inl refl;
  }

  pub exited-elsewhere : ((k : AstType) (l : Label) (fs : Fields) → p.late_constructs k l fs ≡ false) → (h : Hook) (t : Tree) → Exited p h a t a t
  exited-elsewhere none h t = record { stepped = λ n f k. stays; cleared = λ e free. none-anywhere p.late_constructs none t; body = refl; none = λ test own free. free; hooks = omega arith }

-- CALLS are not counted

module _ {X : Type 0} {suits : X → EnvOptions → Type 0} (o : EnvOptions) (x y : X) (still : suits y o) where
  pub goes-uncounted : (h : Hook) → Goes suits (λ x h j. 0) (λ x h. 0) o h x y
  goes-uncounted h = record { suits_still = still; no_exit = λ g j. omega arith; one_entry = λ g. omega arith }

  pub goes-out-uncounted : (h : Hook) (id : ℕ) → GoesOut suits (λ x h j. 0) (λ x h. 0) o h id x y
  goes-out-uncounted h id = record { suits_still = still; one_exit = λ g j. omega arith; no_entry = λ g. omega arith }

  pub goes-out-of-list-uncounted : GoesOutOfList suits (λ x h j. 0) (λ x h. 0) o x y
  goes-out-of-list-uncounted = record { suits_still = still; no_exit = λ g j. omega arith; no_entry = λ g. omega arith }
