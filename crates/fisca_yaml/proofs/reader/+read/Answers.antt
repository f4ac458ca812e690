use Rattle.std.proofs.Common.{◌≡◌, ◌≤◌, ◌∷◌, [], Some, false, option_map, sym, ap, ◌∙◌, subst, arith, rules}
use Rattle.std.proofs.lemmas.Result.{err_from_is_err_and}
use Rattle.fisca_yaml.specs.Flow.{add_pair}
use Rattle.fisca_yaml.specs.Node.{null, list, no_items, no_entries, item}
use Rattle.fisca_yaml_scalars.specs.Steps.Rows.{rank}
use Rattle.fisca_yaml_scalars.specs.Deeper.{front, after}
use Rattle.fisca_yaml.specs.Grouping.{groups, block, items_of, entries_of, item_value, entry_value, map_of}
use Rattle.fisca_yaml_scalars.specs.Steps.Openings.{opens}
use Rattle.fisca_yaml.specs.Answers.{Gives}
use Rattle.fisca_yaml_scalars.specs.Lines.{row}
use Rattle.fisca_yaml.specs.Views.{node, entries_view, items_before, entries_before}
use Rattle.fisca_yaml.specs.declared.tree.Tree.{Null, the_lemmas}
use Rattle.fisca_yaml.proofs.Blocks.{block-nil, block-zero, block-closed, block-item, block-entry}
use Rattle.fisca_yaml.proofs.Grown.{node-List, all_more, all_none, items_before-no_items, entries_before-no_entries}
use Rattle.fisca_yaml.proofs.Numbers.{last_after, last_taken, more_numbered, more_last}
use Rattle.fisca_yaml.proofs.Groups.{takes, Takes, Takes-after, Takes-settled, Takes-fewer, front_deeper, pending, waiting, waiting-map, front_after, after_after}
use Rattle.fisca_yaml.proofs.reader.+read.Goals as goal

pub read_below-returns-in-None-clause-value : goal.read_below-returns-in-None-clause-value
read_below-returns-in-None-clause-value t c =
    let seen : node Null ≡ null = search (rules, the_lemmas) in
    ap (block c.args.depth) c.in-None.ensures.none.0 ∙ block-nil c.args.depth ∙ ap Some (sym seen)

pub read_block-returns-then-depth-eq0-clause-value : goal.read_block-returns-then-depth-eq0-clause-value
read_block-returns-then-depth-eq0-clause-value t c never = block-zero c.args.depth _ _ c.if-depth-eq0.true

pub read_block-returns-in_err-read_items-clause-value : goal.read_block-returns-in_err-read_items-clause-value
read_block-returns-in_err-read_items-clause-value t c =
    let p = err_from_is_err_and c.from_residual.result c.from_residual.ensures.1 in
    rw (p.1, p.2) (λ k. block-item c.args.depth (row c.args.head) (front c.args.floor c.args.rest.now) (omega arith) (grind arith) ∙ ap (option_map list) (c.in_err-read_items.ensures.value k))

pub read_block-returns-in_err-entries-clause-value : goal.read_block-returns-in_err-entries-clause-value
read_block-returns-in_err-entries-clause-value t c =
    let p = err_from_is_err_and c.from_residual-in_err-entries.result c.from_residual-in_err-entries.ensures.1 in
    rw (p.1, p.2) (λ k. block-entry c.args.depth (row c.args.head) (front c.args.floor c.args.rest.now) (omega arith) (grind arith) ∙ ap map_of (c.in_err-entries.ensures.value k))

pub read_block-returns-in_ok-read_items-clause-value : goal.read_block-returns-in_ok-read_items-clause-value
read_block-returns-in_ok-read_items-clause-value t c =
    block-item c.args.depth (row c.args.head) (front c.args.floor c.args.rest.now) (omega arith) (grind arith) ∙ ap (option_map list) c.in_ok-read_items.ensures.value ∙ ap Some (sym (node-List c.in_ok-read_items.field-0))

pub read_block-returns-in_ok-entries-clause-value : goal.read_block-returns-in_ok-entries-clause-value
read_block-returns-in_ok-entries-clause-value t c =
    let whole : block c.args.depth (row c.args.head ∷ front c.args.floor c.args.rest.now) ≡ map_of (Some (entries_view c.in_ok-entries.entries.items)) =
    block-entry c.args.depth (row c.args.head) (front c.args.floor c.args.rest.now) (omega arith) (grind arith) ∙ ap map_of c.in_ok-entries.ensures.value in
    subst (Gives node c.make_map.result) (sym whole) c.make_map.ensures.value

pub read_items-loop-next-smaller : goal.read_items-loop-next-smaller
read_items-loop-next-smaller t c =
    let l = c.loop-next in
    let left = c.in_ok-value.ensures.rest in
    let took : Takes c.args.floor c.read_item.new.rest (option_map row c.next_deeper-next.result) c.next_deeper-next.new.self = takes c.args.floor c.read_item.new.rest row c.next_deeper-next.result c.next_deeper-next.new.self c.next_deeper-next.ensures.none c.next_deeper-next.ensures.some in
    let fewer = Takes-fewer c.args.floor (rank (row c.in-Some.line)) l.rest (option_map row c.next_deeper-next.result) c.next_deeper-next.new.self (rw left at took) in
    omega (arith, fewer, waiting-map row c.next_deeper-next.result, ap waiting c.in-Some.is)

pub read_items-loop-next-preserved : goal.read_items-loop-next-preserved
read_items-loop-next-preserved t c =
    let l = c.loop-next in
    let line = row c.in-Some.line in
    let f = c.args.floor in
    let r = c.rank-rank.result in
    let value = item_value c.args.depth (block c.args.depth) in
    let next = option_map row c.next_deeper-next.result in
    let new = c.next_deeper-next.new.self in
    let left = c.in_ok-value.ensures.rest in
    let below : f ≤ r = grind arith in
    let here : rank line ≡ r = grind arith in
    let took : Takes f c.read_item.new.rest next new = takes f c.read_item.new.rest row c.next_deeper-next.result new c.next_deeper-next.ensures.none c.next_deeper-next.ensures.some in
    let before : items_of value r (groups r (pending f (option_map row l.next) l.rest)) ≡ items_of value r (groups r (line ∷ front f l.rest)) = ap (λ o. items_of value r (groups r (pending f (option_map row o) l.rest))) c.in-Some.is in
    let more = all_more no_items item items_before value f r line l.rest below here l.items.items c.push_item.new.items.items (node c.in_ok-value.value) next new c.read_item.new.rest c.in_ok-value.ensures.value c.in_ok-push_item.ensures.ok left took in
    let at = rw c.in-Some.is at l.invariant.bound in
    let gone = rw left at (last_taken f c.read_item.new.rest next new took) in
    let shallow : front r c.read_item.new.rest ≡ [] = ap (front r) left ∙ ap (λ k. front r (after k l.rest)) here ∙ front_after r l.rest in
    record {
      turn = l.invariant.turn ∙ ap (option_map (items_before l.items.items)) before ∙ more;
      left = Takes-after f c.read_item.new.rest next new took ∙ ap (after f) left ∙ after_after f (rank line) l.rest (omega arith) ∙ l.invariant.left;
      next = Takes-settled f r c.read_item.new.rest next new shallow took;
      bound = omega (arith, at, gone, last_after (rank line) l.rest);
    }

pub read_items-returns-clause-value : goal.read_items-returns-clause-value
read_items-returns-clause-value t c =
    let l = c.loop-next in
    let r = c.rank-rank.result in
    let value = item_value c.args.depth (block c.args.depth) in
    let same : r ≡ rank (row c.args.head) = c.rank-rank.ensures in
    let done : items_of value r (groups r (pending c.args.floor (option_map row l.next) l.rest)) ≡ Some no_items = ap (λ o. items_of value r (groups r (pending c.args.floor (option_map row o) l.rest))) c.in_default.is in
    ap (λ k. items_of value k (groups k (row c.args.head ∷ front c.args.floor c.args.rest.now))) (sym same) ∙ l.invariant.turn ∙ ap (option_map (items_before l.items.items)) done ∙ ap Some (items_before-no_items l.items.items)

pub read_items-returns-in_err-value-clause-value : goal.read_items-returns-in_err-value-clause-value
read_items-returns-in_err-value-clause-value t c =
    let l = c.loop-next in
    let line = row c.in-Some.line in
    let f = c.args.floor in
    let r = c.rank-rank.result in
    let value = item_value c.args.depth (block c.args.depth) in
    let same : r ≡ rank (row c.args.head) = c.rank-rank.ensures in
    let below : f ≤ r = grind arith in
    let here : rank line ≡ r = grind arith in
    let before : items_of value r (groups r (pending f (option_map row l.next) l.rest)) ≡ items_of value r (groups r (line ∷ front f l.rest)) = ap (λ o. items_of value r (groups r (pending f (option_map row o) l.rest))) c.in-Some.is in
    let p = err_from_is_err_and c.from_residual.result c.from_residual.ensures.1 in
    rw (p.1, p.2) (λ k. ap (λ k. items_of value k (groups k (row c.args.head ∷ front c.args.floor c.args.rest.now))) (sym same) ∙ l.invariant.turn
    ∙ ap (option_map (items_before l.items.items)) (before ∙ all_none no_items item items_before value f r line l.rest below here (c.in_err-value.ensures.value k)))

pub read_entries-loop-next-smaller : goal.read_entries-loop-next-smaller
read_entries-loop-next-smaller t c =
    let l = c.loop-next in
    let left = c.in_default-read_entry.ensures.rest in
    let took : Takes c.args.floor c.read_entry.new.rest (option_map row c.next_deeper-next.result) c.next_deeper-next.new.self = takes c.args.floor c.read_entry.new.rest row c.next_deeper-next.result c.next_deeper-next.new.self c.next_deeper-next.ensures.none c.next_deeper-next.ensures.some in
    let fewer = Takes-fewer c.args.floor (rank (row c.in-Some.line)) l.rest (option_map row c.next_deeper-next.result) c.next_deeper-next.new.self (rw left at took) in
    omega (arith, fewer, waiting-map row c.next_deeper-next.result, ap waiting c.in-Some.is)

pub read_entries-loop-next-preserved : goal.read_entries-loop-next-preserved
read_entries-loop-next-preserved t c =
    let l = c.loop-next in
    let line = row c.in-Some.line in
    let f = c.args.floor in
    let r = c.rank-rank.result in
    let value = entry_value c.args.depth (block c.args.depth) in
    let next = option_map row c.next_deeper-next.result in
    let new = c.next_deeper-next.new.self in
    let left = c.in_default-read_entry.ensures.rest in
    let below : f ≤ r = grind arith in
    let here : rank line ≡ r = grind arith in
    let took : Takes f c.read_entry.new.rest next new = takes f c.read_entry.new.rest row c.next_deeper-next.result new c.next_deeper-next.ensures.none c.next_deeper-next.ensures.some in
    let before : entries_of value r (groups r (pending f (option_map row l.next) l.rest)) ≡ entries_of value r (groups r (line ∷ front f l.rest)) = ap (λ o. entries_of value r (groups r (pending f (option_map row o) l.rest))) c.in-Some.is in
    let put = c.in_default-read_entry.ensures.value in
    let more = all_more no_entries add_pair entries_before value f r line l.rest below here l.entries.items c.read_entry.new.entries.items put.0 next new c.read_entry.new.rest put.1.0 put.1.1 left took in
    let at = rw c.in-Some.is at l.invariant.bound in
    let gone = rw left at (last_taken f c.read_entry.new.rest next new took) in
    let shallow : front r c.read_entry.new.rest ≡ [] = ap (front r) left ∙ ap (λ k. front r (after k l.rest)) here ∙ front_after r l.rest in
    record {
      turn = l.invariant.turn ∙ ap (option_map (entries_before l.entries.items)) before ∙ more;
      left = Takes-after f c.read_entry.new.rest next new took ∙ ap (after f) left ∙ after_after f (rank line) l.rest (omega arith) ∙ l.invariant.left;
      next = Takes-settled f r c.read_entry.new.rest next new shallow took;
      bound = omega (arith, at, gone, last_after (rank line) l.rest);
      numbered = more_numbered l.entries.items c.read_entry.new.entries.items put.0.0 line.number put.0.1 put.1.1 (omega arith) l.invariant.numbered;
      lines = omega (arith, at, l.invariant.lines, more_last l.entries.items c.read_entry.new.entries.items put.0.0 line.number put.0.1 put.1.1);
    }

pub read_entries-returns-clause-value : goal.read_entries-returns-clause-value
read_entries-returns-clause-value t c =
    let l = c.loop-next in
    let r = c.rank-rank.result in
    let value = entry_value c.args.depth (block c.args.depth) in
    let same : r ≡ rank (row c.args.head) = c.rank-rank.ensures in
    let done : entries_of value r (groups r (pending c.args.floor (option_map row l.next) l.rest)) ≡ Some no_entries = ap (λ o. entries_of value r (groups r (pending c.args.floor (option_map row o) l.rest))) c.in_default.is in
    ap (λ k. entries_of value k (groups k (row c.args.head ∷ front c.args.floor c.args.rest.now))) (sym same) ∙ l.invariant.turn ∙ ap (option_map (entries_before l.entries.items)) done ∙ ap Some (entries_before-no_entries l.entries.items)

pub read_entries-returns-in-Err-clause-value : goal.read_entries-returns-in-Err-clause-value
read_entries-returns-in-Err-clause-value t c k =
    let l = c.loop-next in
    let line = row c.in-Some.line in
    let f = c.args.floor in
    let r = c.rank-rank.result in
    let value = entry_value c.args.depth (block c.args.depth) in
    let same : r ≡ rank (row c.args.head) = c.rank-rank.ensures in
    let below : f ≤ r = grind arith in
    let here : rank line ≡ r = grind arith in
    let before : entries_of value r (groups r (pending f (option_map row l.next) l.rest)) ≡ entries_of value r (groups r (line ∷ front f l.rest)) = ap (λ o. entries_of value r (groups r (pending f (option_map row o) l.rest))) c.in-Some.is in
    ap (λ k. entries_of value k (groups k (row c.args.head ∷ front c.args.floor c.args.rest.now))) (sym same) ∙ l.invariant.turn
    ∙ ap (option_map (entries_before l.entries.items)) (before ∙ all_none no_entries add_pair entries_before value f r line l.rest below here (c.in-Err.ensures.value (c.first_fault-in-Err.ensures.memory k)))

pub read_items-returns-then-rank-clause-told : goal.read_items-returns-then-rank-clause-told
read_items-returns-then-rank-clause-told t c =
    let at = rw c.in-Some.is at c.loop-next.invariant.bound in
    (omega (arith, at, c.misplaced.ensures.0), c.misplaced.ensures.1)

pub read_items-returns-in_err-value-clause-told : goal.read_items-returns-in_err-value-clause-told
read_items-returns-in_err-value-clause-told t c =
    let at = rw c.in-Some.is at c.loop-next.invariant.bound in
    let p = err_from_is_err_and c.from_residual.result c.from_residual.ensures.1 in
    rw (p.1, p.2) (omega (arith, at, c.in_err-value.ensures.told.0), c.in_err-value.ensures.told.1)

pub read_entries-first_fault-requires : goal.read_entries-first_fault-requires
read_entries-first_fault-requires t c = rw c.deref.ensures.value c.loop-next.invariant.numbered

pub read_entries-returns-then-rank-clause-told : goal.read_entries-returns-then-rank-clause-told
read_entries-returns-then-rank-clause-told t c =
    let at = rw c.in-Some.is at c.loop-next.invariant.bound in
    let lines = rw c.deref.ensures.value at c.first_fault.ensures.line in
    (omega (arith, at, lines, c.loop-next.invariant.lines, c.misplaced-fault.ensures.0), c.first_fault.ensures.long c.misplaced-fault.ensures.1)

pub read_entries-first_fault-requires-in-Err : goal.read_entries-first_fault-requires-in-Err
read_entries-first_fault-requires-in-Err t c = rw (c.deref-in-Err.ensures.value, c.in-Err.ensures.kept) c.loop-next.invariant.numbered

pub read_entries-returns-in-Err-clause-told : goal.read_entries-returns-in-Err-clause-told
read_entries-returns-in-Err-clause-told t c =
    let at = rw c.in-Some.is at c.loop-next.invariant.bound in
    let lines = rw (c.deref-in-Err.ensures.value, c.in-Err.ensures.kept) at c.first_fault-in-Err.ensures.line in
    (omega (arith, at, lines, c.loop-next.invariant.lines, c.in-Err.ensures.told.0), c.first_fault-in-Err.ensures.long c.in-Err.ensures.told.1)

pub read_entries-returns-clause-lines : goal.read_entries-returns-clause-lines
read_entries-returns-clause-lines t c = (c.loop-next.invariant.numbered, c.loop-next.invariant.lines)

pub read_below-returns-else-branch-clause-value : goal.read_below-returns-else-branch-clause-value
read_below-returns-else-branch-clause-value t c k =
    let head = row c.in-Some.head in
    let rest = c.next_deeper.new.self in
    let taken = c.in-Some.ensures.some in
    let lines : front c.args.floor c.args.rest.now ≡ head ∷ front c.args.floor rest = ap (front c.args.floor) taken.0 ∙ front_deeper c.args.floor head rest taken.1 in
    let closed : opens head ≡ false = sym c.in_ok-opens-in-Some.ensures ∙ c.if-branch.false in
    ap (block c.args.depth) lines ∙ block-closed c.args.depth head (front c.args.floor rest) closed

pub read_entry-returns-in_ok-push_entry-in-Ok-clause-value : goal.read_entry-returns-in_ok-push_entry-in-Ok-clause-value
read_entry-returns-in_ok-push_entry-in-Ok-clause-value t c = ((c.in-Some.key, node c.in-Ok.value), (search rules, c.in_ok-push_entry-in-Ok.ensures.ok))
