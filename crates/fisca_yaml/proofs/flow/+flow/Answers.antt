use Rattle.std.proofs.Common.{◌≡◌, ◌-◌, ◌<◌, ◌≤◌, List, ℕ, length, Some, true, false, sym, ap, ap₂, ◌∙◌, subst, arith}
use Rattle.std.proofs.lemmas.Result.{err_from_is_err_and}
use Rattle.fisca_yaml.specs.Answers.{GivesAnd}
use Rattle.fisca_yaml.specs.Node.{Node, Items, Entries, list, no_items, item, no_entries}
use Rattle.fisca_yaml_scalars.specs.Steps.Rows.{begins, tail}
use Rattle.fisca_yaml_scalars.specs.Steps.Scalars.{past_blanks}
use Rattle.fisca_yaml.specs.Flow.{flow_scalar, flow_value, flow_entry, flow_items, flow_entries, series, add_pair, parse_map, map_apart, after_value}
use Rattle.fisca_yaml.specs.Views.{node, items_before, entries_before, entries_view}
use Rattle.fisca_yaml.proofs.Grown.{node-List, items_before-no_items, entries_before-no_entries}
use Rattle.fisca_yaml.proofs.Bracketed.{series_end, series_fail, series_apart, series_more, flow_list, flow_map, flow_plain, deep_list, deep_map, not_list, one_more_item, one_more_entry, gives_apart}
use Rattle.fisca_yaml.proofs.Numbers.{more_numbered, more_last}
use Rattle.fisca_yaml.proofs.flow.+flow.Goals as goal

pub read_flow-returns-then-depth-eq0-clause-value : goal.read_flow-returns-then-depth-eq0-clause-value
read_flow-returns-then-depth-eq0-clause-value t c k = deep_list c.args.depth c.args.number c.args.flow.now c.if-depth-eq0.true (grind arith)

pub read_flow-returns-in_err-read_flow_items-clause-value : goal.read_flow-returns-in_err-read_flow_items-clause-value
read_flow-returns-in_err-read_flow_items-clause-value t c =
    let bs = c.args.flow.now in
    let inside : List ℕ = c.skip_blanks.new.self in
    let opened : begins 91 bs ≡ true = grind arith in
    let at : inside ≡ past_blanks false (tail bs) = c.skip_blanks.ensures.value ∙ ap (past_blanks false) c.if-take.ensures.taken in
    let p = err_from_is_err_and c.from_residual.result c.from_residual.ensures.1 in
    rw (p.1, p.2) (λ k. flow_list c.args.depth c.args.number bs (omega arith) opened
    ∙ ap (λ (s : List ℕ). parse_map list (flow_items (flow_value (c.args.depth - 1) c.args.number) c.args.number s)) (sym at)
    ∙ ap (parse_map list) (c.in_err-read_flow_items.ensures.value k))

pub read_flow-returns-then-take-clause-value : goal.read_flow-returns-then-take-clause-value
read_flow-returns-then-take-clause-value t c =
    let bs = c.args.flow.now in
    let inside : List ℕ = c.skip_blanks.new.self in
    let rest : List ℕ = c.read_flow_items.new.flow in
    let opened : begins 91 bs ≡ true = grind arith in
    let at : inside ≡ past_blanks false (tail bs) = c.skip_blanks.ensures.value ∙ ap (past_blanks false) c.if-take.ensures.taken in
    flow_list c.args.depth c.args.number bs (omega arith) opened
    ∙ ap (λ (s : List ℕ). parse_map list (flow_items (flow_value (c.args.depth - 1) c.args.number) c.args.number s)) (sym at)
    ∙ ap (parse_map list) c.in_ok-read_flow_items.ensures.value ∙ ap (λ (n : Node). Some (n, rest)) (sym (node-List c.in_ok-read_flow_items.field-0))

pub read_flow-returns-then-depth-eq0-2-clause-value : goal.read_flow-returns-then-depth-eq0-2-clause-value
read_flow-returns-then-depth-eq0-2-clause-value t c k =
    let bs = c.args.flow.now in
    let same : c.take.new.self ≡ bs = c.if-take.ensures.left in
    let opened : begins 123 bs ≡ true = ap (begins 123) (sym same) ∙ sym c.if-take-2.ensures.is in
    deep_map c.args.depth c.args.number bs c.if-depth-eq0-2.true (not_list bs opened) opened

pub read_flow-returns-in_err-entries-clause-value : goal.read_flow-returns-in_err-entries-clause-value
read_flow-returns-in_err-entries-clause-value t c =
    let bs = c.args.flow.now in
    let same : c.take.new.self ≡ bs = c.if-take.ensures.left in
    let opened : begins 123 bs ≡ true = ap (begins 123) (sym same) ∙ sym c.if-take-2.ensures.is in
    let inside : List ℕ = c.skip_blanks-then-take-2.new.self in
    let at : inside ≡ past_blanks false (tail bs) = c.skip_blanks-then-take-2.ensures.value ∙ ap (past_blanks false) (c.if-take-2.ensures.taken ∙ ap tail same) in
    let p = err_from_is_err_and c.from_residual-in_err-entries.result c.from_residual-in_err-entries.ensures.1 in
    rw (p.1, p.2) (λ k. flow_map c.args.depth c.args.number bs (omega arith) (not_list bs opened) opened
    ∙ ap (λ (s : List ℕ). map_apart (flow_entries (flow_value (c.args.depth - 1) c.args.number) c.args.number s)) (sym at) ∙ ap map_apart (c.in_err-entries.ensures.value k))

pub read_flow-returns-then-take-2-clause-value : goal.read_flow-returns-then-take-2-clause-value
read_flow-returns-then-take-2-clause-value t c =
    let bs = c.args.flow.now in
    let same : c.take.new.self ≡ bs = c.if-take.ensures.left in
    let opened : begins 123 bs ≡ true = ap (begins 123) (sym same) ∙ sym c.if-take-2.ensures.is in
    let inside : List ℕ = c.skip_blanks-then-take-2.new.self in
    let rest : List ℕ = c.read_flow_entries.new.flow in
    let at : inside ≡ past_blanks false (tail bs) = c.skip_blanks-then-take-2.ensures.value ∙ ap (past_blanks false) (c.if-take-2.ensures.taken ∙ ap tail same) in
    gives_apart c.make_map.result (entries_view c.in_ok-entries.entries.items) rest (flow_value c.args.depth c.args.number bs) (flow_map c.args.depth c.args.number bs (omega arith) (not_list bs opened) opened
    ∙ ap (λ (s : List ℕ). map_apart (flow_entries (flow_value (c.args.depth - 1) c.args.number) c.args.number s)) (sym at) ∙ ap map_apart c.in_ok-entries.ensures.value) c.make_map.ensures.value

pub read_flow-returns-clause-value : goal.read_flow-returns-clause-value
read_flow-returns-clause-value t c =
    let bs = c.args.flow.now in
    let same : c.take.new.self ≡ bs = c.if-take.ensures.left in
    let again : c.take-2.new.self ≡ bs = c.if-take-2.ensures.left ∙ same in
    let no_list : begins 91 bs ≡ false = grind arith in
    let no_map : begins 123 bs ≡ false = ap (begins 123) (sym same) ∙ sym c.if-take-2.ensures.is in
    subst (GivesAnd node c.read_flow_scalar.result c.read_flow_scalar.new.flow) (ap (flow_scalar c.args.number) again ∙ sym (flow_plain c.args.depth c.args.number bs no_list no_map)) c.read_flow_scalar.ensures.value

pub read_flow_items-returns-in_err-value-clause-value : goal.read_flow_items-returns-in_err-value-clause-value
read_flow_items-returns-in_err-value-clause-value t c =
    let l = c.loop-alloc in
    let value = flow_value c.args.depth c.args.number in
    let going : begins 93 l.flow ≡ false = grind arith in
    let here : List ℕ = c.take.new.self in
    let at : here ≡ l.flow = c.loop-alloc-test.ensures.left in
    let p = err_from_is_err_and c.from_residual.result c.from_residual.ensures.1 in
    rw (p.1, p.2) (λ k. l.invariant.2 ∙ ap (parse_map (items_before l.items.items)) (series_fail Node Items 93 no_items (item c.args.number) value l.invariant.0 l.flow going (ap value (sym at) ∙ c.in_err-value.ensures.value k)))

pub read_flow_items-loop-alloc-preserved : goal.read_flow_items-loop-alloc-preserved
read_flow_items-loop-alloc-preserved t c =
    let l = c.loop-alloc in
    let n = l.invariant.0 in
    let value = flow_value c.args.depth c.args.number in
    let going : begins 93 l.flow ≡ false = grind arith in
    let here : List ℕ = c.take.new.self in
    let rest : List ℕ = c.read_flow.new.flow in
    let next : List ℕ = c.separate.new.flow in
    let at : here ≡ l.flow = c.loop-alloc-test.ensures.left in
    let found : value l.flow ≡ Some (node c.in_ok-value.value, rest) = ap value (sym at) ∙ c.in_ok-value.ensures.value in
    let less : length rest < length here = c.in_ok-value.ensures.shorter in
    let lesser : length next ≤ length rest = c.in_ok-separate.ensures.shorter in
    let same : length here ≡ length l.flow = ap length at in
    let turn = series_more Node Items 93 no_items (item c.args.number) value n l.flow rest next (node c.in_ok-value.value) (omega (arith, l.invariant.1)) going found c.in_ok-separate.ensures.value in (
      n - 1,
      omega (arith, l.invariant.1),
      l.invariant.2 ∙ ap (parse_map (items_before l.items.items)) turn
          ∙ one_more_item l.items.items c.push_item.new.items.items c.args.number (node c.in_ok-value.value) (series 93 no_items (item c.args.number) value (n - 1) next) c.in_ok-push_item.ensures.ok,
      omega (arith, l.invariant.3),
    )

pub read_flow_items-returns-in_err-separate-clause-value : goal.read_flow_items-returns-in_err-separate-clause-value
read_flow_items-returns-in_err-separate-clause-value t c =
    let l = c.loop-alloc in
    let value = flow_value c.args.depth c.args.number in
    let going : begins 93 l.flow ≡ false = grind arith in
    let here : List ℕ = c.take.new.self in
    let rest : List ℕ = c.read_flow.new.flow in
    let at : here ≡ l.flow = c.loop-alloc-test.ensures.left in
    let found : value l.flow ≡ Some (node c.in_ok-value.value, rest) = ap value (sym at) ∙ c.in_ok-value.ensures.value in
    let p = err_from_is_err_and c.from_residual-in_err-separate.result c.from_residual-in_err-separate.ensures.1 in
    rw (p.1, p.2) (λ k. l.invariant.2 ∙ ap (parse_map (items_before l.items.items)) (series_apart Node Items 93 no_items (item c.args.number) value l.invariant.0 l.flow rest (node c.in_ok-value.value) going found c.in_err-separate.ensures.value.1))

pub read_flow_items-returns-clause-value : goal.read_flow_items-returns-clause-value
read_flow_items-returns-clause-value t c =
    let l = c.loop-alloc in
    let value = flow_value c.args.depth c.args.number in
    let closed : begins 93 l.flow ≡ true = grind arith in
    let rest : List ℕ = c.take.new.self in
    let at : rest ≡ tail l.flow = c.loop-alloc-test.ensures.taken in
    let filled : length rest < length l.flow = c.loop-alloc-test.ensures.shorter in
    l.invariant.2 ∙ ap (parse_map (items_before l.items.items)) (series_end Node Items 93 no_items (item c.args.number) value l.invariant.0 l.flow (omega (arith, l.invariant.1, filled)) closed)
    ∙ ap₂ (λ i r. Some (i, r)) (items_before-no_items l.items.items) (sym at)

pub read_flow_entries-returns-in-Err-clause-value : goal.read_flow_entries-returns-in-Err-clause-value
read_flow_entries-returns-in-Err-clause-value t c k =
    let l = c.loop-alloc in
    let value = flow_entry (flow_value c.args.depth c.args.number) in
    let going : begins 125 l.flow ≡ false = grind arith in
    let here : List ℕ = c.take.new.self in
    let at : here ≡ l.flow = c.loop-alloc-test.ensures.left in
    l.invariant.2 ∙ ap (parse_map (entries_before l.entries.items)) (series_fail (List ℕ × Node) Entries 125 no_entries (add_pair c.args.number) value l.invariant.0 l.flow going (ap value (sym at) ∙ c.in-Err.ensures.value (c.first_fault.ensures.memory k)))

pub read_flow_entries-first_fault-requires : goal.read_flow_entries-first_fault-requires
read_flow_entries-first_fault-requires t c = rw c.deref-in-Err.ensures.value c.loop-alloc.invariant.4

pub read_flow_entries-returns-in-Err-clause-told : goal.read_flow_entries-returns-in-Err-clause-told
read_flow_entries-returns-in-Err-clause-told t c =
    let lines = rw c.deref-in-Err.ensures.value at c.first_fault.ensures.line in
    (omega (arith, lines, c.loop-alloc.invariant.5, c.in-Err.ensures.told.0), c.first_fault.ensures.long c.in-Err.ensures.told.1)

pub read_flow_entries-loop-alloc-preserved : goal.read_flow_entries-loop-alloc-preserved
read_flow_entries-loop-alloc-preserved t c =
    let l = c.loop-alloc in
    let n = l.invariant.0 in
    let value = flow_entry (flow_value c.args.depth c.args.number) in
    let going : begins 125 l.flow ≡ false = grind arith in
    let here : List ℕ = c.take.new.self in
    let rest : List ℕ = c.read_flow_entry.new.flow in
    let next : List ℕ = c.separate.new.flow in
    let at : here ≡ l.flow = c.loop-alloc-test.ensures.left in
    let key : List ℕ = c.in-Ok.key in
    let pair : List ℕ × Node = (key, node c.in-Ok.value) in
    let found : value l.flow ≡ Some (pair, rest) = ap value (sym at) ∙ c.in-Ok.ensures.value in
    let less : length rest < length here = c.in-Ok.ensures.shorter in
    let lesser : length next ≤ length rest = c.in_default.ensures.shorter in
    let same : length here ≡ length l.flow = ap length at in
    let apart : after_value 125 rest ≡ Some next = c.in_default.ensures.value in
    let turn = series_more (List ℕ × Node) Entries 125 no_entries (add_pair c.args.number) value n l.flow rest next pair (omega (arith, l.invariant.1)) going found apart in (
      n - 1,
      omega (arith, l.invariant.1),
      l.invariant.2 ∙ ap (parse_map (entries_before l.entries.items)) turn
          ∙ one_more_entry l.entries.items c.push_entry.new.entries.items key c.args.number (node c.in-Ok.value) (series 125 no_entries (add_pair c.args.number) value (n - 1) next) c.in_ok-push_entry-in-Ok.ensures.ok,
      omega (arith, l.invariant.3),
      more_numbered l.entries.items c.push_entry.new.entries.items key c.args.number (node c.in-Ok.value) c.in_ok-push_entry-in-Ok.ensures.ok c.requires l.invariant.4,
      omega (arith, l.invariant.5, more_last l.entries.items c.push_entry.new.entries.items key c.args.number (node c.in-Ok.value) c.in_ok-push_entry-in-Ok.ensures.ok),
    )

pub read_flow_entries-returns-in-Err-separate-clause-value : goal.read_flow_entries-returns-in-Err-separate-clause-value
read_flow_entries-returns-in-Err-separate-clause-value t c k =
    let l = c.loop-alloc in
    let value = flow_entry (flow_value c.args.depth c.args.number) in
    let going : begins 125 l.flow ≡ false = grind arith in
    let here : List ℕ = c.take.new.self in
    let rest : List ℕ = c.read_flow_entry.new.flow in
    let at : here ≡ l.flow = c.loop-alloc-test.ensures.left in
    let key : List ℕ = c.in-Ok.key in
    let pair : List ℕ × Node = (key, node c.in-Ok.value) in
    let found : value l.flow ≡ Some (pair, rest) = ap value (sym at) ∙ c.in-Ok.ensures.value in
    l.invariant.2 ∙ ap (parse_map (entries_before l.entries.items)) (series_apart (List ℕ × Node) Entries 125 no_entries (add_pair c.args.number) value l.invariant.0 l.flow rest pair going found (c.in-Err-separate.ensures.value.1))

pub read_flow_entries-returns-clause-value : goal.read_flow_entries-returns-clause-value
read_flow_entries-returns-clause-value t c =
    let l = c.loop-alloc in
    let value = flow_entry (flow_value c.args.depth c.args.number) in
    let closed : begins 125 l.flow ≡ true = grind arith in
    let rest : List ℕ = c.take.new.self in
    let at : rest ≡ tail l.flow = c.loop-alloc-test.ensures.taken in
    let filled : length rest < length l.flow = c.loop-alloc-test.ensures.shorter in
    l.invariant.2 ∙ ap (parse_map (entries_before l.entries.items)) (series_end (List ℕ × Node) Entries 125 no_entries (add_pair c.args.number) value l.invariant.0 l.flow (omega (arith, l.invariant.1, filled)) closed)
    ∙ ap₂ (λ i r. Some (i, r)) (entries_before-no_entries l.entries.items) (sym at)

pub read_flow_entries-first_fault-requires-in-Err-separate : goal.read_flow_entries-first_fault-requires-in-Err-separate
read_flow_entries-first_fault-requires-in-Err-separate t c =
    let l = c.loop-alloc in
    rw c.deref-in-Err-separate.ensures.value (more_numbered l.entries.items c.push_entry.new.entries.items c.in-Ok.key c.args.number (node c.in-Ok.value) c.in_ok-push_entry-in-Ok.ensures.ok c.requires l.invariant.4)

pub read_flow_entries-returns-in-Err-separate-clause-told : goal.read_flow_entries-returns-in-Err-separate-clause-told
read_flow_entries-returns-in-Err-separate-clause-told t c =
    let l = c.loop-alloc in
    let lines = rw c.deref-in-Err-separate.ensures.value at c.first_fault-in-Err-separate.ensures.line in
    let more = more_last l.entries.items c.push_entry.new.entries.items c.in-Ok.key c.args.number (node c.in-Ok.value) c.in_ok-push_entry-in-Ok.ensures.ok in
    (omega (arith, lines, more, l.invariant.5, c.in-Err-separate.ensures.told.0), c.first_fault-in-Err-separate.ensures.long c.in-Err-separate.ensures.told.1)

pub read_flow_entries-returns-clause-lines : goal.read_flow_entries-returns-clause-lines
read_flow_entries-returns-clause-lines t c = (c.loop-alloc.invariant.4, c.loop-alloc.invariant.5)
