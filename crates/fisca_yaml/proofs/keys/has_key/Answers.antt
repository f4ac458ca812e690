use Rattle.std.proofs.Common.{◌≡◌, ◌<◌, ◌||◌, length, get_or, sym, ap, ap₂, ◌∙◌, arith}
use Rattle.std.specs.List.{list_any}
use Rattle.std.specs.Str.{bytes_eq}
use Rattle.fisca_yaml.proofs.Twice.{met, one_more_key, key, key-is, swap_eq, all_keys}
use Rattle.fisca_yaml.proofs.keys.has_key.Goals as goal

pub returns-then-eq : goal.returns-then-eq
returns-then-eq c =
    let es = c.args.entries.now in
    let i = c.loop-entry.entry-index in
    let e = c.entry-item.result in
    let within : i < length es = grind arith in
    let mine : c.as_str.result.now ≡ key (get_or es i e) = c.as_str.ensures ∙ sym (key-is e) ∙ ap key c.entry-item.is in
    sym (met es i e within c.args.key.now (swap_eq c.args.key.now (key (get_or es i e)) ∙ ap (λ k. bytes_eq k c.args.key.now) (sym mine) ∙ sym c.if-eq.ensures))

pub loop-entry-preserved : goal.loop-entry-preserved
loop-entry-preserved c =
    let es = c.args.entries.now in
    let i = c.loop-entry.entry-index in
    let e = c.entry-item.result in
    let within : i < length es = grind arith in
    let mine : c.as_str.result.now ≡ key (get_or es i e) = c.as_str.ensures ∙ sym (key-is e) ∙ ap key c.entry-item.is in
    one_more_key es i e within c.args.key.now
    ∙ ap₂ (λ a b. a || b) c.loop-entry.invariant (swap_eq c.args.key.now (key (get_or es i e)) ∙ ap (λ k. bytes_eq k c.args.key.now) (sym mine) ∙ sym c.if-eq.ensures)

pub returns : goal.returns
returns c = sym c.loop-entry.invariant ∙ ap (list_any (bytes_eq c.args.key.now)) (all_keys c.args.entries.now c.loop-entry.entry-index (omega arith))
