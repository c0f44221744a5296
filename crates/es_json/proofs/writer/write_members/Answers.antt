use Rattle.std.proofs.Common.{arith, ap, ◌∙◌, map}
use Rattle.std.specs.Vec.Iter.{into_iter_items}
use Rattle.serde_json.specs.Data.{boolean}
use Rattle.serde_json.specs.View.{view}
use Rattle.es_json.specs.Canonical.{text_value}
use Rattle.es_json.proofs.Puts.{text_entry, flag_entry, child_entry}
use Rattle.es_json.proofs.writer.write_members.Goals as goal
use Rattle.es_json.proofs.writer.write_members.Goals.{in-Text+in_ok-value-in-Text, in-Flag, in-Child+in_ok-value-in-Child}

pub loop-entry-preserved : goal.loop-entry-preserved
loop-entry-preserved c =
    let es = c.entries-entry-items.result.now in
    let l = c.loop-entry in
    let key = c.as_str.ensures in
    let puts = c.in_ok-put.ensures.ok in
    elim c.match-entry.branch [
      | in-Text+in_ok-value-in-Text w ↦
          let value = ap view w.value-is ∙ w.in_ok-value-in-Text.ensures ∙ ap text_value w.text-text.ensures in
          record {
            texts_before = omega arith;
            flags_before = omega arith;
            left = rw (w.texts-is, w.flags-is, w.children-is, puts) (text_entry es l.entry-index _ l.texts _ _ _ _ _ _ c.loop-entry-test.true w.in-Text.is key value ∙ l.invariant.left);
          }
      | in-Flag w ↦ record {
        texts_before = omega arith;
        flags_before = omega arith;
        left = rw (w.texts-is, w.flags-is, w.children-is, puts) (flag_entry es l.entry-index _ l.flags _ _ _ _ _ _ c.loop-entry-test.true w.in-Flag.is key (ap view w.value-is ∙ w.from-value.ensures ∙ ap boolean w.flag-flag.ensures) ∙ l.invariant.left);
      }
      | in-Child+in_ok-value-in-Child w ↦ record {
        texts_before = omega arith;
        flags_before = omega arith;
        left = rw (w.texts-is, w.flags-is, puts) (child_entry es l.entry-index _ _ _ _ _ _ _ _ _ _ c.loop-entry-test.true w.in-Child.is key (ap view w.value-is ∙ w.in_ok-value-in-Child.ensures.value) (ap (λ it. map view (into_iter_items it)) w.children-is ∙ w.in_ok-value-in-Child.ensures.left) ∙ l.invariant.left);
      }
    ]
