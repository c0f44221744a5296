-- Parts of what a row leaves: what moves from the node that the row acts on, and the nodes that the row makes of it. What names find is
-- the same from all of them.
use Rattle.std.proofs.Common.{◌≡◌, ◌&&◌, ◌||◌, ℕ, Bool, true, false, List, [], ◌∷◌, ◌++◌, refl, sym, ◌∙◌, true≢false}
use Rattle.std.specs.Prelude.{Option, Some, None, codes, is_some, not}
use Rattle.std.proofs.lemmas.Bool.{and_parts, and_from, or_from}
use Rattle.es_tree.specs.Constructs.{any_kind, is_exponentiation, is_spread}
use Rattle.es_tree.specs.Parens.{without_parens}
use Rattle.es_tree.specs.Tree.{Tree, node, Label, Fields, done, ◌then◌, one, many, Trees, empty, ◌before◌, trees}
use Rattle.es_tree.specs.Walks.{any_in_trees, any_node}
use Rattle.es_tree.specs.Words.{Text}
use Rattle.es_tree.specs.declared.ast_type.AstType.{AstType}
use Rattle.es_tree.specs.declared.ast_type.AstType.TheVariants.{AssignmentExpression, BinaryExpression, CallExpression, ConditionalExpression, Identifier, LogicalExpression, MemberExpression, NullLiteral, NumericLiteral, ObjectExpression, ObjectTarget, ParenthesizedExpression, SequenceExpression, UnaryExpression}
use Rattle.es_tree.specs.declared.options.EnvOptions.{EnvOptions}
use Rattle.es_runs.specs.Alike.{Level, content_level, key_need, the_value}
use Rattle.es_runs.specs.Core.{flag}
use Rattle.es_runs.specs.OptionalChaining.{call_at, delete_node, is_chain_kind, member_at, takes_value}
use Rattle.es_runs.specs.Rules.{assign_node, is_marked, member_node, null_node, strays, strays_nodes, void_zero_node}
use Rattle.es_semantic.specs.RolesOf.{reads}
use Rattle.es_resolution.specs.Declarations.{Bound}
use Rattle.es_resolution.specs.Resolved.{no_name}
use Rattle.es_steps.specs.Nodes.{made, identifier, word}
use Rattle.es_steps.specs.Open.{is_body, opened_fields}
use Rattle.es_steps.specs.Steps.{Site, site_in}
use Rattle.es_steps.proofs.Sites.{AgreeOnUsed, PlacesAlike}
use Rattle.es_changes.specs.Rules.{is_asked_for}
use Rattle.es_conditions.specs.CoreConditions.{accepts_chain, each_passes, each_passes_among, each_passes_in, is_chain_placed, is_copied, is_copy_free, is_placed, is_power_free, is_taken_over, is_unmarked_chain}
use Rattle.es_conditions.proofs.Marks.{Marked, first-of, second-of}
use Rattle.es_conditions.proofs.Moves.{Moves, moved, moved-among}

-- SITES from which the names that are asked for find these symbols

abbrev pub Finds : (Text → Option ℕ) → Site → Type 0
Finds s m = AgreeOnUsed is_asked_for s m.names.scope

pub record Here (s : Text → Option ℕ) (m : Site) : Type 0 where
  pub scope : Finds s m
  pub parameters : (y : Text) → is_asked_for y ≡ true → m.names.parameters y ≡ false

-- which take the value of a chain, and of what it holds
abbrev pub takes_chain : Site → Bool
takes_chain m = takes_value (content_level m.need.level)

value-too : (a : Level) → takes_value (content_level a) ≡ true → takes_value a ≡ true
value-too Level.an_operand_of_typeof e = refl
value-too a e = e

accepts-value : (a b : Bool) → a ≡ true → (a || b) ≡ true
accepts-value true b e = refl
accepts-value false b e = absurd (true≢false (sym e))

names-here : (s : Text → Option ℕ) (n m : Site) → Here s n → Here s m → PlacesAlike is_asked_for n.names m.names
names-here s n m h k = record {
  scope = λ y u. k.scope y u ∙ sym (h.scope y u);
  parameters = λ y u. k.parameters y u ∙ sym (h.parameters y u);
}

pub moves-to-value : (s : Text → Option ℕ) (n m : Site) → Here s n → Here s m → takes_chain m ≡ true → Moves n m
moves-to-value s n m h k e = record {
  names = names-here s n m h k;
  levels = record { value = λ d. value-too m.need.level e; content = λ d. e };
  accepted = λ d. accepts-value (takes_value m.need.level) (is_taken_over m.above) (value-too m.need.level e);
}

-- from a place that takes no value to one with which a chain is lowered
pub moves-over : (s : Text → Option ℕ) (n m : Site) → Here s n → Here s m → takes_value n.need.level ≡ false → takes_chain n ≡ false → accepts_chain m ≡ true → Moves n m
moves-over s n m h k none content e = record {
  names = names-here s n m h k;
  levels = record { value = λ d. absurd (true≢false (sym d ∙ none)); content = λ d. absurd (true≢false (sym d ∙ content)) };
  accepted = λ d. e;
}

-- a site that takes a value
abbrev pub some_site : (Text → Option ℕ) → Site
some_site s = record { need = the_value; above = []; role = reads; names = record { scope = s; hoist = s; parameters = no_name } }

pub key-value : (computed : Bool) → takes_value (content_level (key_need computed).level) ≡ true
key-value true = refl
key-value false = refl

not-asked : (b h c : Bool) → h ≡ false → (not (b && h) || c) ≡ true
not-asked true true c e = absurd (true≢false e)
not-asked true false c e = refl
not-asked false h c e = refl

-- two trees as fields of a node
pub two-of : (x a b : Bool) → (x && (a && (b && true))) ≡ true → (a ≡ true) × (b ≡ true)
two-of true true true e = (refl, refl)
two-of true true false e = absurd (true≢false (sym e))
two-of true false b e = absurd (true≢false (sym e))
two-of false a b e = absurd (true≢false (sym e))

pub two-none : (x a b : Bool) → (x || (a || (b || false))) ≡ false → (a ≡ false) × (b ≡ false)
two-none true a b e = absurd (true≢false e)
two-none false true b e = absurd (true≢false e)
two-none false false true e = absurd (true≢false e)
two-none false false false e = (refl, refl)

no-copy : (k : AstType) (l : Label) → is_copied k l done ≡ false
no-copy ObjectExpression l = refl
no-copy ObjectTarget l = refl
no-copy k l = refl

-- a node that is no construct whose lowering asks for a name, and no chain
pub plain : (o : EnvOptions) (m : Site) (k : AstType) (l : Label) (fs : Fields) → is_exponentiation k l fs ≡ false → is_copied k l fs ≡ false → is_chain_kind k ≡ false → is_placed o m k l fs ≡ true
plain o m k l fs power copy chain =
    and_from (is_power_free o m k l fs && is_copy_free o m k l fs) (is_chain_placed o m k)
    (and_from (is_power_free o m k l fs) (is_copy_free o m k l fs) (not-asked o.es2016.exponentiation_operator (is_exponentiation k l fs) _ power) (not-asked (is_some o.es2018.object_rest_spread) (is_copied k l fs) _ copy))
    (not-asked o.es2020.optional_chaining (is_chain_kind k) (accepts_chain m) chain)

module _ (o : EnvOptions) (s : Text → Option ℕ) where
  abbrev pub Passes : Site → Tree → Type 0
  Passes m t = each_passes (is_placed o) m t ≡ true

  -- PARTS that may stand wherever a value is taken

  pub record Part (t : Tree) : Type 0 where
    pub valued : (m : Site) → Here s m → takes_chain m ≡ true → Passes m t
    pub marked : Marked o t

  pub record PartsAmong (ts : Trees) : Type 0 where
    pub valued : (m : Site) → Here s m → takes_chain m ≡ true → each_passes_among (is_placed o) m ts ≡ true
    pub tidy : o.es2020.optional_chaining ≡ true → strays_nodes false ts ≡ false
    pub full : o.es2020.optional_chaining ≡ true → any_in_trees is_unmarked_chain ts ≡ false

  abbrev pub AreParts : List Tree → Type 0
  AreParts [] = Unit {0}
  AreParts (t ∷ ts) = Part t × AreParts ts

  -- and that may stand anywhere, as no chain may
  pub record Made (t : Tree) : Type 0 where
    pub anywhere : (m : Site) → Finds s m → Passes m t
    pub marked : Marked o t

  pub part-of : (t : Tree) → Made t → Part t
  part-of t h = record { valued = λ m k e. h.anywhere m k.scope; marked = h.marked }

  pub part-at : (n : Site) (t : Tree) → Here s n → Passes n t → Marked o t → Part t
  part-at n t h p k = record { valued = λ m j e. moved o n m t (moves-to-value s n m h j e) p; marked = k }

  pub among-at : (n : Site) (ts : Trees) → Here s n → each_passes_among (is_placed o) n ts ≡ true → (o.es2020.optional_chaining ≡ true → strays_nodes false ts ≡ false) → (o.es2020.optional_chaining ≡ true → any_in_trees is_unmarked_chain ts ≡ false) → PartsAmong ts
  among-at n ts h p tidy full = record { valued = λ m j e. moved-among o n m ts (moves-to-value s n m h j e) p; tidy = tidy; full = full }

  pub among-none : PartsAmong empty
  among-none = record { valued = λ m k e. refl; tidy = λ on. refl; full = λ on. refl }

  pub among-first : (t : Tree) (ts : Trees) → Part t → PartsAmong ts → PartsAmong (t before ts)
  among-first t ts h k = record {
    valued = λ m j e. and_from (each_passes (is_placed o) m t) (each_passes_among (is_placed o) m ts) (h.valued m j e) (k.valued m j e);
    tidy = λ on. rw (h.marked.tidy on) (k.tidy on);
    full = λ on. rw (h.marked.full on) (k.full on);
  }

  pub among-parts : (t : Tree) (ts : Trees) → PartsAmong (t before ts) → Part t × PartsAmong ts
  among-parts t ts h = (
    record {
      valued = λ m j e. (and_parts (each_passes (is_placed o) m t) (each_passes_among (is_placed o) m ts) (h.valued m j e)).0;
      marked = record { tidy = λ on. first-of (strays false t) (strays_nodes false ts) (h.tidy on); full = λ on. first-of (any_node is_unmarked_chain t) (any_in_trees is_unmarked_chain ts) (h.full on) };
    },
    record {
      valued = λ m j e. (and_parts (each_passes (is_placed o) m t) (each_passes_among (is_placed o) m ts) (h.valued m j e)).1;
      tidy = λ on. second-of (strays false t) (strays_nodes false ts) (h.tidy on);
      full = λ on. second-of (any_node is_unmarked_chain t) (any_in_trees is_unmarked_chain ts) (h.full on);
    },
  )

  pub among-list : (ts : List Tree) → AreParts ts → PartsAmong (trees ts)
  among-list [] h = among-none
  among-list (t ∷ ts) h = among-first t (trees ts) h.0 (among-list ts h.1)

  pub both-parts : (ts us : List Tree) → AreParts ts → AreParts us → AreParts (ts ++ us)
  both-parts [] us h k = k
  both-parts (t ∷ ts) us h k = (h.0, both-parts ts us h.1 k)

  -- FIELDS OF A NODE

  pub two-parts : (c : ℕ → Site) (a b : Tree) (x y z : Bool) → Here s (c 0) → Here s (c 1) → (x && (each_passes (is_placed o) (c 0) a && (each_passes (is_placed o) (c 1) b && true))) ≡ true →
      (o.es2020.optional_chaining ≡ true → (y || (strays false a || (strays false b || false))) ≡ false) → (o.es2020.optional_chaining ≡ true → (z || (any_node is_unmarked_chain a || (any_node is_unmarked_chain b || false))) ≡ false) → Part a × Part b
  two-parts c a b x y z h k p tidy full =
      let passes = two-of x (each_passes (is_placed o) (c 0) a) (each_passes (is_placed o) (c 1) b) p in (
        part-at (c 0) a h passes.0 (record { tidy = λ on. (two-none y (strays false a) (strays false b) (tidy on)).0; full = λ on. (two-none z (any_node is_unmarked_chain a) (any_node is_unmarked_chain b) (full on)).0 }),
        part-at (c 1) b k passes.1 (record { tidy = λ on. (two-none y (strays false a) (strays false b) (tidy on)).1; full = λ on. (two-none z (any_node is_unmarked_chain a) (any_node is_unmarked_chain b) (full on)).1 }),
      )

  -- of a member, marked or not
  pub part-member : (l : Label) (a b : Tree) → Part (node MemberExpression l (one a then one b then done)) → Part a × Part b
  part-member l a b h = two-parts (site_in (some_site s) MemberExpression l (opened_fields (is_body MemberExpression) (one a then one b then done))) a b _ _ false (record { scope = λ y u. refl; parameters = λ y u. refl }) (record { scope = λ y u. refl; parameters = λ y u. refl }) (h.valued (some_site s) (record { scope = λ y u. refl; parameters = λ y u. refl }) refl) h.marked.tidy h.marked.full

  -- inside parentheses
  pub part-inside : (l : Label) (t : Tree) (fs : Fields) → Part (node ParenthesizedExpression l (one t then fs)) → Part t
  part-inside l t fs h =
      let passes = (and_parts (is_placed o (some_site s) ParenthesizedExpression l (one t then fs)) (each_passes_in (is_placed o) (site_in (some_site s) ParenthesizedExpression l (opened_fields (is_body ParenthesizedExpression) (one t then fs))) (is_body ParenthesizedExpression) (one t then fs)) (h.valued (some_site s) (record { scope = λ y u. refl; parameters = λ y u. refl }) refl)).1 in
      part-at (site_in (some_site s) ParenthesizedExpression l (opened_fields (is_body ParenthesizedExpression) (one t then fs)) 0) t (record { scope = λ y u. refl; parameters = λ y u. refl }) (and_parts _ _ passes).0 (record { tidy = λ on. first-of (strays false t) _ (h.marked.tidy on); full = λ on. first-of (any_node is_unmarked_chain t) _ (h.marked.full on) })

  pub part-bare : (t : Tree) → Part t → Part (without_parens t)
  part-bare (node ParenthesizedExpression l (one t then fs)) h = part-bare t (part-inside l t fs h)
  part-bare t h = h

  -- NODES

  pub made-leaf : (k : AstType) (l : Label) → is_exponentiation k l done ≡ false → is_chain_kind k ≡ false → is_marked k l.flags ≡ false → is_unmarked_chain k l done ≡ false → Made (node k l done)
  made-leaf k l e d tidy full = record {
    anywhere = λ m h. and_from (is_placed o m k l done) true (plain o m k l done e (no-copy k l) d) refl;
    marked = record { tidy = λ on. rw tidy refl; full = λ on. rw full refl };
  }

  pub made-name : (l : Label) → Made (node Identifier l done)
  made-name l = made-leaf Identifier l refl refl refl refl

  -- a node of two trees, both of which may stand where a value is taken
  two-passes : (x a b : Bool) → x ≡ true → a ≡ true → b ≡ true → (x && (a && (b && true))) ≡ true
  two-passes x a b e d h = rw (e, d, h) refl

  abbrev pub sites_of : Site → AstType → Label → Fields → ℕ → Site
  sites_of m k l fs = site_in m k l (opened_fields (is_body k) fs)

  pub made-logical : (l : Label) (a b : Tree) → Part a → Part b → Made (node LogicalExpression l (one a then one b then done))
  made-logical l a b ha hb = record {
    anywhere = λ m h. let c = sites_of m LogicalExpression l (one a then one b then done) in two-passes (is_placed o m LogicalExpression l (one a then one b then done)) (each_passes (is_placed o) (c 0) a) (each_passes (is_placed o) (c 1) b) (plain o m LogicalExpression l (one a then one b then done) refl refl refl) (ha.valued (c 0) (record { scope = h; parameters = λ y u. refl }) refl) (hb.valued (c 1) (record { scope = h; parameters = λ y u. refl }) refl);
    marked = record { tidy = λ on. rw (ha.marked.tidy on, hb.marked.tidy on) refl; full = λ on. rw (ha.marked.full on, hb.marked.full on) refl };
  }

  -- that is no exponentiation
  pub made-binary : (l : Label) (a b : Tree) → is_exponentiation BinaryExpression l (one a then one b then done) ≡ false → Part a → Part b → Made (node BinaryExpression l (one a then one b then done))
  made-binary l a b e ha hb = record {
    anywhere = λ m h. let c = sites_of m BinaryExpression l (one a then one b then done) in two-passes (is_placed o m BinaryExpression l (one a then one b then done)) (each_passes (is_placed o) (c 0) a) (each_passes (is_placed o) (c 1) b) (plain o m BinaryExpression l (one a then one b then done) e refl refl) (ha.valued (c 0) (record { scope = h; parameters = λ y u. refl }) refl) (hb.valued (c 1) (record { scope = h; parameters = λ y u. refl }) refl);
    marked = record { tidy = λ on. rw (ha.marked.tidy on, hb.marked.tidy on) refl; full = λ on. rw (ha.marked.full on, hb.marked.full on) refl };
  }

  pub made-conditional : (l : Label) (a b c : Tree) → Part a → Part b → Part c → Made (node ConditionalExpression l (one a then one b then one c then done))
  made-conditional l a b c ha hb hc = record {
    anywhere = λ m h.
        let d = sites_of m ConditionalExpression l (one a then one b then one c then done) in
        and_from (is_placed o m ConditionalExpression l (one a then one b then one c then done)) _ (plain o m ConditionalExpression l (one a then one b then one c then done) refl refl refl)
        (two-passes (each_passes (is_placed o) (d 0) a) (each_passes (is_placed o) (d 1) b) (each_passes (is_placed o) (d 2) c) (ha.valued (d 0) (record { scope = h; parameters = λ y u. refl }) refl) (hb.valued (d 1) (record { scope = h; parameters = λ y u. refl }) refl) (hc.valued (d 2) (record { scope = h; parameters = λ y u. refl }) refl));
    marked = record { tidy = λ on. rw (ha.marked.tidy on, hb.marked.tidy on, hc.marked.tidy on) refl; full = λ on. rw (ha.marked.full on, hb.marked.full on, hc.marked.full on) refl };
  }

  -- `a = b`, with a target that may stand anywhere
  pub made-assignment : (l : Label) (a b : Tree) → is_exponentiation AssignmentExpression l (one a then one b then done) ≡ false → Made a → Part b → Made (node AssignmentExpression l (one a then one b then done))
  made-assignment l a b e ha hb = record {
    anywhere = λ m h. let c = sites_of m AssignmentExpression l (one a then one b then done) in two-passes (is_placed o m AssignmentExpression l (one a then one b then done)) (each_passes (is_placed o) (c 0) a) (each_passes (is_placed o) (c 1) b) (plain o m AssignmentExpression l (one a then one b then done) e refl refl) (ha.anywhere (c 0) h) (hb.valued (c 1) (record { scope = h; parameters = λ y u. refl }) refl);
    marked = record { tidy = λ on. rw (ha.marked.tidy on, hb.marked.tidy on) refl; full = λ on. rw (ha.marked.full on, hb.marked.full on) refl };
  }

  -- a member without a mark
  pub made-member : (l : Label) (computed : Bool) (a b : Tree) → Part a → Part b → Made (member_at l computed a b)
  made-member l computed a b ha hb = record {
    anywhere = λ m h. let c = sites_of m MemberExpression (record l { flags = computed ∷ false ∷ [] }) (one a then one b then done) in two-passes (is_placed o m MemberExpression (record l { flags = computed ∷ false ∷ [] }) (one a then one b then done)) (each_passes (is_placed o) (c 0) a) (each_passes (is_placed o) (c 1) b) (plain o m MemberExpression (record l { flags = computed ∷ false ∷ [] }) (one a then one b then done) refl refl refl) (ha.valued (c 0) (record { scope = h; parameters = λ y u. refl }) refl) (hb.valued (c 1) (record { scope = h; parameters = λ y u. refl }) (key-value computed));
    marked = record { tidy = λ on. rw (ha.marked.tidy on, hb.marked.tidy on) refl; full = λ on. rw (ha.marked.full on, hb.marked.full on) refl };
  }

  -- the site of the callee of a call without a mark
  abbrev pub callee_of : Site → Label → Tree → Trees → Site
  callee_of m l f arguments = sites_of m CallExpression (record l { flags = false ∷ [] }) (one f then many arguments then done) 0

  pub made-call-by : (l : Label) (f : Tree) (arguments : Trees) → ((m : Site) → Finds s m → Passes (callee_of m l f arguments) f) → Marked o f → PartsAmong arguments → Made (call_at l f arguments)
  made-call-by l f arguments hf k ha = record {
    anywhere = λ m h. let c = sites_of m CallExpression (record l { flags = false ∷ [] }) (one f then many arguments then done) in two-passes (is_placed o m CallExpression (record l { flags = false ∷ [] }) (one f then many arguments then done)) (each_passes (is_placed o) (c 0) f) (each_passes_among (is_placed o) (c 1) arguments) (plain o m CallExpression (record l { flags = false ∷ [] }) (one f then many arguments then done) refl refl refl) (hf m h) (ha.valued (c 1) (record { scope = h; parameters = λ y u. refl }) refl);
    marked = record { tidy = λ on. rw (k.tidy on, ha.tidy on) refl; full = λ on. rw (k.full on, ha.full on) refl };
  }

  pub made-call : (l : Label) (f : Tree) (arguments : Trees) → Made f → PartsAmong arguments → Made (call_at l f arguments)
  made-call l f arguments hf ha = made-call-by l f arguments (λ m h. hf.anywhere (callee_of m l f arguments) h) hf.marked ha

  -- any call without a mark
  pub made-called : (l : Label) (f : Tree) (arguments : Trees) → flag l.flags ≡ false → Made f → PartsAmong arguments → Made (node CallExpression l (one f then many arguments then done))
  made-called l f arguments unmarked hf ha = record {
    anywhere = λ m h. let c = sites_of m CallExpression l (one f then many arguments then done) in two-passes (is_placed o m CallExpression l (one f then many arguments then done)) (each_passes (is_placed o) (c 0) f) (each_passes_among (is_placed o) (c 1) arguments) (plain o m CallExpression l (one f then many arguments then done) refl refl refl) (hf.anywhere (c 0) h) (ha.valued (c 1) (record { scope = h; parameters = λ y u. refl }) refl);
    marked = record { tidy = λ on. rw (unmarked, hf.marked.tidy on, ha.tidy on) refl; full = λ on. rw (hf.marked.full on, ha.full on) refl };
  }

  pub made-parens : (l : Label) (a : Tree) → Made a → Made (node ParenthesizedExpression l (one a then done))
  made-parens l a h = record {
    anywhere = λ m k. and_from (is_placed o m ParenthesizedExpression l (one a then done)) _ (plain o m ParenthesizedExpression l (one a then done) refl refl refl) (and_from (each_passes (is_placed o) (sites_of m ParenthesizedExpression l (one a then done) 0) a) true (h.anywhere (sites_of m ParenthesizedExpression l (one a then done) 0) k) refl);
    marked = record { tidy = λ on. rw (h.marked.tidy on) refl; full = λ on. rw (h.marked.full on) refl };
  }

  pub made-delete : (a : Tree) → Made a → Made (delete_node a)
  made-delete a h = record {
    anywhere = λ m k. let l = made (Some (codes "delete") ∷ []) [] in and_from (is_placed o m UnaryExpression l (one a then done)) _ (plain o m UnaryExpression l (one a then done) refl refl refl) (and_from (each_passes (is_placed o) (sites_of m UnaryExpression l (one a then done) 0) a) true (h.anywhere (sites_of m UnaryExpression l (one a then done) 0) k) refl);
    marked = record { tidy = λ on. rw (h.marked.tidy on) refl; full = λ on. rw (h.marked.full on) refl };
  }

  pub made-sequence : (l : Label) (ts : Trees) → PartsAmong ts → Made (node SequenceExpression l (many ts then done))
  made-sequence l ts h = record {
    anywhere = λ m k. and_from (is_placed o m SequenceExpression l (many ts then done)) _ (plain o m SequenceExpression l (many ts then done) refl refl refl) (and_from (each_passes_among (is_placed o) (sites_of m SequenceExpression l (many ts then done) 0) ts) true (h.valued (sites_of m SequenceExpression l (many ts then done) 0) (record { scope = k; parameters = λ y u. refl }) refl) refl);
    marked = record { tidy = λ on. rw (h.tidy on) refl; full = λ on. rw (h.full on) refl };
  }

  -- an object literal without a spread
  pub made-object : (l : Label) (ts : Trees) → any_kind is_spread ts ≡ false → PartsAmong ts → Made (node ObjectExpression l (many ts then done))
  made-object l ts none h = record {
    anywhere = λ m k. and_from (is_placed o m ObjectExpression l (many ts then done)) _ (plain o m ObjectExpression l (many ts then done) refl (or_from (any_kind is_spread ts) false none refl) refl) (and_from (each_passes_among (is_placed o) (sites_of m ObjectExpression l (many ts then done) 0) ts) true (h.valued (sites_of m ObjectExpression l (many ts then done) 0) (record { scope = k; parameters = λ y u. refl }) refl) refl);
    marked = record { tidy = λ on. rw (h.tidy on) refl; full = λ on. rw (h.full on) refl };
  }

  -- WHAT ROWS WRITE

  pub made-identifier : (b : Bound) → Made (identifier b)
  made-identifier b = made-name (record (made (Some b.name ∷ []) []) { marks = b.symbol ∷ [] })

  pub made-word : (x : Text) → Made (word x)
  made-word x = made-identifier (record { name = x; symbol = None })

  -- `x.y`, of words
  pub made-static : (x y : Text) → Made (member_node false (word x) (word y))
  made-static x y = made-member (made [] []) false (word x) (word y) (part-of (word x) (made-word x)) (part-of (word y) (made-word y))

  pub made-stored : (b : Bound) (t : Tree) → Part t → Made (assign_node (identifier b) t)
  made-stored b t h = made-assignment (made (Some (codes "=") ∷ []) []) (identifier b) t refl (made-identifier b) h

  pub made-void : Made void_zero_node
  made-void =
      let zero_node = node NumericLiteral (made (Some (codes "0") ∷ Some (codes "0") ∷ []) []) done in
      let l = made (Some (codes "void") ∷ []) [] in
      let leaf : Made zero_node = made-leaf NumericLiteral (made (Some (codes "0") ∷ Some (codes "0") ∷ []) []) refl refl refl refl in
      record {
        anywhere = λ m k. and_from (is_placed o m UnaryExpression l (one zero_node then done)) _ (plain o m UnaryExpression l (one zero_node then done) refl refl refl) (and_from (each_passes (is_placed o) (sites_of m UnaryExpression l (one zero_node then done) 0) zero_node) true (leaf.anywhere (sites_of m UnaryExpression l (one zero_node then done) 0) k) refl);
        marked = record { tidy = λ on. refl; full = λ on. refl };
      }

  pub made-null : Made null_node
  made-null = made-leaf NullLiteral (made [] []) refl refl refl refl
