-- The loops over what stands in brackets, a turn at a time.
use Rattle.std.proofs.Common.{◌≡◌, ℕ, zero, suc, ◌-◌, ◌<◌, Bool, true, false, cond, List, [], ◌∷◌, Option, Some, None, option_map, Result, Ok, Err, refl, sym, ap, ◌∙◌, arith}
use Rattle.std.proofs.lemmas.Bool.Decides.{nat_tests}
use Rattle.fisca_yaml.specs.Node.{Node, list, map, keys, repeats, Items, item, Entries}
use Rattle.fisca_yaml.specs.Views.{node, items_before, AddsItem, entries_before, AddsEntry}
use Rattle.fisca_yaml.specs.declared.tree.Item.{Item}
use Rattle.fisca_yaml.specs.declared.tree.Entry.{Entry}
use Rattle.fisca_yaml_scalars.specs.Steps.Rows.{begins, tail}
use Rattle.fisca_yaml_scalars.specs.Steps.Scalars.{past_blanks}
use Rattle.fisca_yaml.specs.Grouping.{map_of}
use Rattle.fisca_yaml.specs.Answers.{Gives, GivesAnd}
use Rattle.fisca_yaml.specs.declared.fault.YamlFault.{YamlFault}
use Rattle.fisca_yaml.specs.declared.tree.Tree.{Tree}
use Rattle.fisca_yaml.specs.Flow.{Parse, parse_map, after_value, then_more, series_step, series, flow_items, flow_entries, add_pair, map_apart, flow_with, flow_scalar, flow_value}

module _ (A B : Type 0) (close : ℕ) (nil : B) (add : A → B → B) (element : Parse A) where
  by_step : (f : ℕ) (bs : List ℕ) → 0 < f → series close nil add element f bs ≡ series_step close nil add element (series close nil add element (f - 1)) bs
  unfolding series
  by_step zero bs h = absurd (omega arith)
  by_step (suc f) bs h = let e : f ≡ suc f - 1 = omega arith in ap (λ k. series_step close nil add element (series close nil add element k) bs) e

  step_end : (more : Parse B) (bs : List ℕ) → begins close bs ≡ true → series_step close nil add element more bs ≡ Some (nil, tail bs)
  step_end more bs e = rw e refl

  step_fail : (more : Parse B) (bs : List ℕ) → begins close bs ≡ false → element bs ≡ None → series_step close nil add element more bs ≡ None
  step_fail more bs e v = rw (e, v) refl

  step_more : (more : Parse B) (bs rest : List ℕ) (v : A) → begins close bs ≡ false → element bs ≡ Some (v, rest) → series_step close nil add element more bs ≡ then_more add more v (after_value close rest)
  step_more more bs rest v e q = rw (e, q) refl

  pub series_end : (f : ℕ) (bs : List ℕ) → 0 < f → begins close bs ≡ true → series close nil add element f bs ≡ Some (nil, tail bs)
  series_end f bs h e = by_step f bs h ∙ step_end (series close nil add element (f - 1)) bs e

  pub series_fail : (f : ℕ) (bs : List ℕ) → begins close bs ≡ false → element bs ≡ None → series close nil add element f bs ≡ None
  unfolding series
  series_fail zero bs e v = refl
  series_fail (suc f) bs e v = step_fail (series close nil add element f) bs e v

  pub series_apart : (f : ℕ) (bs rest : List ℕ) (v : A) → begins close bs ≡ false → element bs ≡ Some (v, rest) → after_value close rest ≡ None → series close nil add element f bs ≡ None
  unfolding series
  series_apart zero bs rest v e q a = refl
  series_apart (suc f) bs rest v e q a = step_more (series close nil add element f) bs rest v e q ∙ ap (then_more add (series close nil add element f) v) a

  pub series_more : (f : ℕ) (bs rest next : List ℕ) (v : A) → 0 < f → begins close bs ≡ false → element bs ≡ Some (v, rest) → after_value close rest ≡ Some next
      → series close nil add element f bs ≡ parse_map (add v) (series close nil add element (f - 1) next)
  series_more f bs rest next v h e q a = by_step f bs h ∙ step_more (series close nil add element (f - 1)) bs rest v e q ∙ ap (then_more add (series close nil add element (f - 1)) v) a

with_list : (items : Parse Items) (entries : Parse Entries) (number : ℕ) (bs : List ℕ) → begins 91 bs ≡ true → flow_with items entries number bs ≡ parse_map list (items (past_blanks false (tail bs)))
with_list items entries number bs e = rw e refl

with_map : (items : Parse Items) (entries : Parse Entries) (number : ℕ) (bs : List ℕ) → begins 91 bs ≡ false → begins 123 bs ≡ true → flow_with items entries number bs ≡ map_apart (entries (past_blanks false (tail bs)))
with_map items entries number bs f e = rw (f, e) refl

with_scalar : (items : Parse Items) (entries : Parse Entries) (number : ℕ) (bs : List ℕ) → begins 91 bs ≡ false → begins 123 bs ≡ false → flow_with items entries number bs ≡ flow_scalar number bs
with_scalar items entries number bs f e = rw (f, e) refl

pub flow_list : (d number : ℕ) (bs : List ℕ) → 0 < d → begins 91 bs ≡ true → flow_value d number bs ≡ parse_map list (flow_items (flow_value (d - 1) number) number (past_blanks false (tail bs)))
unfolding flow_value
flow_list zero number bs h e = absurd (omega arith)
flow_list (suc d) number bs h e =
    let q : d ≡ suc d - 1 = omega arith in
    with_list (flow_items (flow_value d number) number) (flow_entries (flow_value d number) number) number bs e
    ∙ ap (λ k. parse_map list (flow_items (flow_value k number) number (past_blanks false (tail bs)))) q

pub flow_map : (d number : ℕ) (bs : List ℕ) → 0 < d → begins 91 bs ≡ false → begins 123 bs ≡ true → flow_value d number bs ≡ map_apart (flow_entries (flow_value (d - 1) number) number (past_blanks false (tail bs)))
unfolding flow_value
flow_map zero number bs h f e = absurd (omega arith)
flow_map (suc d) number bs h f e =
    let q : d ≡ suc d - 1 = omega arith in
    with_map (flow_items (flow_value d number) number) (flow_entries (flow_value d number) number) number bs f e
    ∙ ap (λ k. map_apart (flow_entries (flow_value k number) number (past_blanks false (tail bs)))) q

pub flow_plain : (d number : ℕ) (bs : List ℕ) → begins 91 bs ≡ false → begins 123 bs ≡ false → flow_value d number bs ≡ flow_scalar number bs
unfolding flow_value
flow_plain zero number bs f e = with_scalar (λ cs. None) (λ cs. None) number bs f e
flow_plain (suc d) number bs f e = with_scalar (flow_items (flow_value d number) number) (flow_entries (flow_value d number) number) number bs f e

-- with no level left there is no list and no map
pub deep_list : (d number : ℕ) (bs : List ℕ) → d ≡ 0 → begins 91 bs ≡ true → flow_value d number bs ≡ None
unfolding flow_value
deep_list zero number bs z e = with_list (λ cs. None) (λ cs. None) number bs e
deep_list (suc d) number bs z e = absurd (omega arith)

pub deep_map : (d number : ℕ) (bs : List ℕ) → d ≡ 0 → begins 91 bs ≡ false → begins 123 bs ≡ true → flow_value d number bs ≡ None
unfolding flow_value
deep_map zero number bs z f e = with_map (λ cs. None) (λ cs. None) number bs f e
deep_map (suc d) number bs z f e = absurd (omega arith)

-- at another bracket than the first
pub not_list : (bs : List ℕ) → begins 123 bs ≡ true → begins 91 bs ≡ false
not_list [] e = absurd (cc)
not_list (b ∷ bs) e = grind (arith, nat_tests)

pub one_more_item : (is js : List Item) (n : ℕ) (v : Node) (o : Option (Items × List ℕ)) → AddsItem is js n v → parse_map (items_before is) (parse_map (item n v) o) ≡ parse_map (items_before js) o
one_more_item is js n v None e = refl
one_more_item is js n v (Some p) e = ap (λ i. Some (i, p.1)) (sym (e p.0))

pub one_more_entry : (es ds : List Entry) (k : List ℕ) (n : ℕ) (v : Node) (o : Option (Entries × List ℕ)) → AddsEntry es ds k n v → parse_map (entries_before es) (parse_map (add_pair n (k, v)) o) ≡ parse_map (entries_before ds) o
one_more_entry es ds k n v None e = refl
one_more_entry es ds k n v (Some p) e = ap (λ i. Some (i, p.1)) (sym (e p.0))

-- a map with no key twice, and what follows it
pub apart_of : (es : Entries) (rest : List ℕ) → map_apart (Some (es, rest)) ≡ option_map (λ n. (n, rest)) (map_of (Some es))
apart_of es rest = both (repeats (keys es)) where
  both : (b : Bool) → cond {A = Option (Node × List ℕ)} b None (Some (map es, rest)) ≡ option_map (λ n. (n, rest)) (cond b None (Some (map es)))
  both true = refl
  both false = refl

pub gives_apart : (r : Result Tree YamlFault) (es : Entries) (rest : List ℕ) (o : Option (Node × List ℕ)) → o ≡ map_apart (Some (es, rest)) → Gives node r (map_of (Some es)) → GivesAnd node r rest o
gives_apart (Ok t) es rest o e g = e ∙ apart_of es rest ∙ ap (option_map (λ n. (n, rest))) g
gives_apart (Err f) es rest o e g = λ k. e ∙ apart_of es rest ∙ ap (option_map (λ n. (n, rest))) (g k)
