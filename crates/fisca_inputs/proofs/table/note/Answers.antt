use Rattle.std.proofs.Common.{◌≡◌, ◌∙◌, ℕ, ap, arith, if◌then◌else◌}
use Rattle.std.specs.Prelude.{◌==◌, ◌%◌, Some}
use Rattle.std.specs.Map.{lookup}
use Rattle.std.proofs.lemmas.Result.{on_err_weaker, on_ok_weaker}
use Rattle.indexmap.specs.Entry.{entry_value, map_with_value}
use Rattle.fisca_inputs.specs.Entries.{same_key}
use Rattle.fisca_inputs.specs.Places.{number_at, number_in, page_key}
use Rattle.fisca_model.specs.declared.key.Key.{Key}
use Rattle.fisca_inputs.proofs.Noted.{put_seen}
use Rattle.fisca_inputs.proofs.Numbered.{page_like, page_or, page_put}
use Rattle.fisca_inputs.proofs.table.note.Goals as goal

pub returns-clause-ok : goal.returns-clause-ok
returns-clause-ok c =
    let own = c.args.key.now in
    let old = c.args.pages.now.entries in
    let e = c.in_ok-pages.field-0 in
    let page = c.put.new.self in
    let put : (k : Key) → lookup (same_key k) (map_with_value e page).entries ≡ (if same_key k (page_key own) then Some page else lookup (same_key k) old) =
    λ k. ((rw c.page_of.ensures at c.in_ok-pages.ensures.update).0 page).0 k ∙ put_seen (page_key own) page k (lookup (same_key k) old) in
    let was : (m : ℕ) → number_at c.or_insert-page.result.now m ≡ number_in (lookup (same_key (page_key own)) old) m =
    λ m. ap (λ ns. number_at ns m) c.or_insert-page.ensures.value ∙ (page_or (entry_value e) c.new.result c.new.ensures m ∙ ap (λ o. number_in o m) (rw c.page_of.ensures at c.in_ok-pages.ensures.value)) in
    on_ok_weaker c.put.result
    (λ there k.
    let noted = page_put old (map_with_value e page).entries own page put c.args.number (λ m. rw c.place_of.ensures at there m ∙ ap (λ n. if m == own.member % 64 then c.args.number else n) (was m)) k in
    grind (arith, noted))
    c.put.ensures.ok

pub returns-clause-err : goal.returns-clause-err
returns-clause-err c =
    let own = c.args.key.now in
    let old = c.args.pages.now.entries in
    let e = c.in_ok-pages.field-0 in
    let page = c.put.new.self in
    let put : (k : Key) → lookup (same_key k) (map_with_value e page).entries ≡ (if same_key k (page_key own) then Some page else lookup (same_key k) old) =
    λ k. ((rw c.page_of.ensures at c.in_ok-pages.ensures.update).0 page).0 k ∙ put_seen (page_key own) page k (lookup (same_key k) old) in
    let was : (m : ℕ) → number_at c.or_insert-page.result.now m ≡ number_in (lookup (same_key (page_key own)) old) m =
    λ m. ap (λ ns. number_at ns m) c.or_insert-page.ensures.value ∙ (page_or (entry_value e) c.new.result c.new.ensures m ∙ ap (λ o. number_in o m) (rw c.page_of.ensures at c.in_ok-pages.ensures.value)) in
    on_err_weaker c.put.result (λ like k. let same = page_like old (map_with_value e page).entries own page put (λ m. like m ∙ was m) k in grind (arith, same)) c.put.ensures.err
