use Rattle.std.proofs.Common.{◌≡◌, ◌<◌, ◌||◌, length, get_or, take, true, false, Some, is_some, cond, sym, ap, ap₂, ◌∙◌, arith}
use Rattle.std.specs.List.{list_any}
use Rattle.std.specs.Str.{bytes_eq}
use Rattle.std.specs.BTreeMap.{get_by}
use Rattle.std.specs.Cmp.Lexicographic.{slice_cmp}
use Rattle.std.specs.Ordering.{nat_cmp}
use Rattle.std.proofs.lemmas.Map.Text.{btree_map_updates_str}
use Rattle.fisca_yaml.specs.declared.tree.Entry.{Entry}
use Rattle.fisca_yaml.specs.Node.{keys, repeats}
use Rattle.fisca_yaml.specs.Views.{entries_view}
use Rattle.fisca_yaml.proofs.Numbers.{line_of_entry}
use Rattle.fisca_yaml.proofs.Twice.{found, not_yet, one_more_key, key, key-is, put, swap_eq, all_keys}
use Rattle.fisca_yaml.proofs.keys.repeated_among_many.Goals as goal

pub returns-then-is_some-clause-value : goal.returns-then-is_some-clause-value
returns-then-is_some-clause-value c =
    let es = c.args.entries.now in
    let i = c.loop-entry.entry-index in
    let e = c.entry-item.result in
    let within : i < length es = grind arith in
    let mine : c.as_str.result.now ≡ key e = c.as_str.ensures ∙ sym (key-is e) in
    let had : is_some (get_by (λ k. slice_cmp nat_cmp c.as_str.result.now k.now) c.loop-entry.seen) ≡ true = ap is_some (sym c.in_ok-insert.ensures.old) ∙ sym c.if-is_some.ensures in
    let inside : list_any (bytes_eq (key e)) (take i (keys (entries_view es))) ≡ true = ap (λ k. list_any (bytes_eq k) (take i (keys (entries_view es)))) (sym mine) ∙ sym (c.loop-entry.invariant.1 c.as_str.result.now) ∙ had in
    sym (found es i e within (ap (λ (x : Entry). list_any (bytes_eq (key x)) (take i (keys (entries_view es)))) (sym c.entry-item.is) ∙ inside))

pub loop-entry-preserved : goal.loop-entry-preserved
loop-entry-preserved c =
    let es = c.args.entries.now in
    let i = c.loop-entry.entry-index in
    let e = c.entry-item.result in
    let front = take i (keys (entries_view es)) in
    let within : i < length es = grind arith in
    let mine : c.as_str.result.now ≡ key e = c.as_str.ensures ∙ sym (key-is e) in
    let there : key e ≡ key (get_or es i e) = ap key c.entry-item.is in
    let none : is_some (get_by (λ k. slice_cmp nat_cmp c.as_str.result.now k.now) c.loop-entry.seen) ≡ false = ap is_some (sym c.in_ok-insert.ensures.old) ∙ sym c.if-is_some.ensures in
    let absent : list_any (bytes_eq (key (get_or es i e))) front ≡ false = ap (λ k. list_any (bytes_eq k) front) (sym (mine ∙ there)) ∙ sym (c.loop-entry.invariant.1 c.as_str.result.now) ∙ none in
    let updated = btree_map_updates_str c.as_str.result.now c.loop-entry.seen c.insert.new.self (Some c.entry-item.result.line) c.in_ok-insert.ensures.updates in (
      not_yet es i e within c.loop-entry.invariant.0 absent,
      λ q.
          ap is_some (updated q) ∙ ap (λ k. is_some (cond (bytes_eq k q) (Some c.entry-item.result.line) (get_by (λ k. slice_cmp nat_cmp q k.now) c.loop-entry.seen))) (mine ∙ there)
          ∙ put (bytes_eq (key (get_or es i e)) q) c.entry-item.result.line (get_by (λ k. slice_cmp nat_cmp q k.now) c.loop-entry.seen)
          ∙ ap₂ (λ a b. a || b) (c.loop-entry.invariant.1 q) (swap_eq (key (get_or es i e)) q) ∙ sym (one_more_key es i e within q),
    )

pub returns-clause-value : goal.returns-clause-value
returns-clause-value c = sym c.loop-entry.invariant.0 ∙ ap repeats (all_keys c.args.entries.now c.loop-entry.entry-index (omega arith))

pub returns-then-is_some-clause-line : goal.returns-then-is_some-clause-line
returns-then-is_some-clause-line c =
    let within : c.loop-entry.entry-index < length c.args.entries.now = grind arith in
    rw (← c.entry-item.is) at (line_of_entry c.args.entries.now c.loop-entry.entry-index c.entry-item.result within c.requires)
