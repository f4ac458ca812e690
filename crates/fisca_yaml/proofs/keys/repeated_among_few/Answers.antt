use Rattle.std.proofs.Common.{◌≡◌, ◌<◌, length, get_or, sym, ap, ap₂, ◌∙◌, arith}
use Rattle.std.specs.List.{list_any}
use Rattle.std.specs.Str.{bytes_eq}
use Rattle.fisca_yaml.specs.Node.{repeats}
use Rattle.fisca_yaml.proofs.Numbers.{line_of_entry}
use Rattle.fisca_yaml.proofs.Twice.{found, not_yet, front_keys, key, key-is, all_keys}
use Rattle.fisca_yaml.proofs.keys.repeated_among_few.Goals as goal

pub returns-then-has_key-clause-value : goal.returns-then-has_key-clause-value
returns-then-has_key-clause-value c =
    let es = c.args.entries.now in
    let i = c.loop-at.at in
    let e = c.index-entries-at.result in
    let within : i < length es = grind arith in
    let mine : c.as_str.result.now ≡ key (get_or es i e) = c.as_str.ensures ∙ sym (key-is e) ∙ ap key c.index-entries-at.is in
    sym (found es i e within (ap₂ (λ k ks. list_any (bytes_eq k) ks) (sym mine) (sym (front_keys es i)) ∙ sym c.if-has_key.ensures))

pub loop-at-preserved : goal.loop-at-preserved
loop-at-preserved c =
    let es = c.args.entries.now in
    let i = c.loop-at.at in
    let e = c.index-entries-at.result in
    let within : i < length es = grind arith in
    let mine : c.as_str.result.now ≡ key (get_or es i e) = c.as_str.ensures ∙ sym (key-is e) ∙ ap key c.index-entries-at.is in
    not_yet es i e within c.loop-at.invariant (ap₂ (λ k ks. list_any (bytes_eq k) ks) (sym mine) (sym (front_keys es i)) ∙ sym c.if-has_key.ensures)

pub returns-clause-value : goal.returns-clause-value
returns-clause-value c = sym c.loop-at.invariant ∙ ap repeats (all_keys c.args.entries.now c.loop-at.at (omega arith))

pub returns-then-has_key-clause-line : goal.returns-then-has_key-clause-line
returns-then-has_key-clause-line c =
    let within : c.loop-at.at < length c.args.entries.now = grind arith in
    rw (← c.index-entries-at.is) at (line_of_entry c.args.entries.now c.loop-at.at c.index-entries-at.result within c.requires)
