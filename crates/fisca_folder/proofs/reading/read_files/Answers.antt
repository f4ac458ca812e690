use Rattle.std.proofs.Common.{◌≡◌, ◌≤◌, ◌^◌, [], ◌∷◌, ◌++◌, ap, ◌∙◌, arith, length, rules, append-nil}
use Rattle.fisca_folder.specs.declared.folder.FolderFault.TheVariants.{Memory}
use Rattle.std.proofs.lemmas.Result.{err_from_is_err_and}
use Rattle.std.proofs.lemmas.List.{nil_from_length}
use Rattle.std.proofs.lemmas.Grind.{common_steps}
use Rattle.fisca_folder.proofs.FirstFiles.{first_fault, gone_by, one_more_named, one_more_readable, one_more_short, one_more_text}
use Rattle.fisca_folder.proofs.reading.read_files.Goals as goal

pub returns-in_err-text-clause-answer : goal.returns-in_err-text-clause-answer
returns-in_err-text-clause-answer g c = λ known says.
    let told = err_from_is_err_and c.from_residual.result c.from_residual.ensures.1 in
    let i = c.loop-path.invariant in
    let path = c.in-Some.path in
    let left = c.next.new.self.rest.items in
    let stepped : c.loop-path.path-iterator.rest.items ≡ path ∷ left = search rules in
    rw (told.1, told.2) (first_fault known c.args.paths.items i.0 c.loop-path.path-iterator.rest.items left path c.as_str.result.now c.in_err-text.field-0.0 i.1 stepped c.as_str.ensures.value
    (i.4 known says).0 (c.in_err-text.ensures.answer known says))

pub returns-in_err-push-clause-answer : goal.returns-in_err-push-clause-answer
returns-in_err-push-clause-answer g c = λ known says.
    let told = err_from_is_err_and c.from_residual-in_err-push.result c.from_residual-in_err-push.ensures.1 in
    let i = c.loop-path.invariant in
    let path = c.in-Some.path in
    let left = c.next.new.self.rest.items in
    let stepped : c.loop-path.path-iterator.rest.items ≡ path ∷ left = search rules in
    rw (told.1, told.2) (first_fault known c.args.paths.items i.0 c.loop-path.path-iterator.rest.items left path c.as_str.result.now Memory i.1 stepped c.as_str.ensures.value (i.4 known says).0 tt)

pub loop-path-preserved : goal.loop-path-preserved
loop-path-preserved g c =
    let i = c.loop-path.invariant in
    let path = c.in-Some.path in
    let files = c.loop-path.files.items in
    let left = c.next.new.self.rest.items in
    let stepped : c.loop-path.path-iterator.rest.items ≡ path ∷ left = search rules in
    let pushed : c.push.new.self.items ≡ files ++ c.new.result ∷ [] = c.in_ok-push.ensures.items in
    let fits : length c.new.result.text ≤ 2 ^ 20 = rw c.new.ensures c.in_ok-text.ensures.short in (
      i.0 ++ path ∷ [],
      gone_by c.args.paths.items i.0 c.loop-path.path-iterator.rest.items left path i.1 stepped,
      rw pushed (one_more_named i.0 path files c.new.result i.2 (ap (λ f. f.path) c.new.ensures)),
      rw pushed (one_more_short files c.new.result i.3 fits),
      λ known says.
          let read = c.in_ok-text.ensures.answer known says in
          let path_is = c.as_str.ensures.value in (
            one_more_readable known i.0 path (i.4 known says).0 (rw path_is at read.1),
            rw pushed (one_more_text known files c.new.result (i.4 known says).1 (rw c.new.ensures (rw path_is at read.0))),
          ),
    )

pub returns-clause-answer : goal.returns-clause-answer
returns-clause-answer g c = λ known says.
    let i = c.loop-path.invariant in
    let none : length c.loop-path.path-iterator.rest.items ≡ 0 = grind (arith, common_steps) in
    let ended = nil_from_length c.loop-path.path-iterator.rest.items none in
    let whole : c.args.paths.items ≡ i.0 = i.1 ∙ ap (λ rest. i.0 ++ rest) ended ∙ append-nil i.0 in
    record { readable = rw whole (i.4 known says).0; named = rw whole i.2; texts = (i.4 known says).1 }
