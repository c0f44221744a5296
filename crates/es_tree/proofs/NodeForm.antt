-- What it means for one node that it has form.
use Rattle.std.proofs.Common.{◌≡◌, ◌<◌, ◌^◌, ◌==◌, ◌&&◌, nat_lt, length, true}
use Rattle.std.proofs.lemmas.Bool.{and_parts, and_from, eqb-true, eq-eqb, ltb-true, lt-ltb}
use Rattle.es_tree.specs.Tree.{node, Label, Fields}
use Rattle.es_tree.specs.Attributes.{text_entries, flag_entries, child_entries, texts_fit}
use Rattle.es_tree.specs.Agree.{fields_agree}
use Rattle.es_tree.specs.HasForm.{is_of_sort, label_form, elements_of, match_option, fields_form, elements_form, has_form}
use Rattle.es_tree.specs.declared.ast_type.AstType.{AstType}
use Rattle.es_tree.specs.declared.table.Sort.{Sort}

pub record NodeForm (s : Sort) (k : AstType) (l : Label) (fs : Fields) : Type 0 where
  pub sort : is_of_sort s k ≡ true
  pub texts : texts_fit (text_entries k) l.texts ≡ true
  pub flags : length l.flags ≡ length (flag_entries k)
  pub start : l.start < 2 ^ 32
  pub stop : l.stop < 2 ^ 32
  pub agree : fields_agree k l.texts fs ≡ true
  pub children : match_option (elements_of (child_entries k)) (fields_form k l (child_entries k) fs) (λ p. elements_form p.sort p.last fs) ≡ true

pub node_form : (s : Sort) (k : AstType) (l : Label) (fs : Fields) → has_form s (node k l fs) ≡ true → NodeForm s k l fs
node_form s k l fs h =
    let of_sort = is_of_sort s k in
    let label = label_form k l in
    let texts = texts_fit (text_entries k) l.texts in
    let flags = length l.flags == length (flag_entries k) in
    let start = nat_lt l.start (2 ^ 32) in
    let all = and_parts (of_sort && label && fields_agree k l.texts fs) _ h in
    let by_node = and_parts (of_sort && label) _ all.0 in
    let by_sort = and_parts of_sort label by_node.0 in
    let by_stop = and_parts (texts && flags && start) _ by_sort.1 in
    let by_start = and_parts (texts && flags) start by_stop.0 in
    let by_texts = and_parts texts flags by_start.0 in
    record {
      sort = by_sort.0;
      texts = by_texts.0;
      flags = eqb-true (length l.flags) (length (flag_entries k)) by_texts.1;
      start = ltb-true l.start (2 ^ 32) by_start.1;
      stop = ltb-true l.stop (2 ^ 32) by_stop.1;
      agree = by_node.1;
      children = all.1;
    }

pub has_form-node : (s : Sort) (k : AstType) (l : Label) (fs : Fields) → NodeForm s k l fs → has_form s (node k l fs) ≡ true
has_form-node s k l fs h =
    let of_sort = is_of_sort s k in
    let label = label_form k l in
    let texts = texts_fit (text_entries k) l.texts in
    let flags = length l.flags == length (flag_entries k) in
    let start = nat_lt l.start (2 ^ 32) in
    let stop = nat_lt l.stop (2 ^ 32) in
    let by_texts = and_from texts flags h.texts (eq-eqb (length l.flags) (length (flag_entries k)) h.flags) in
    let by_start = and_from (texts && flags) start by_texts (lt-ltb l.start (2 ^ 32) h.start) in
    let by_label = and_from (texts && flags && start) stop by_start (lt-ltb l.stop (2 ^ 32) h.stop) in
    let by_sort = and_from of_sort label h.sort by_label in
    and_from (of_sort && label && fields_agree k l.texts fs) _ (and_from (of_sort && label) _ by_sort h.agree) h.children
