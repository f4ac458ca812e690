-- What is known of the lines that were worked out so far, and of where they stop.
use Rattle.std.proofs.Common.{◌≡◌, ◌∙◌, ◌<◌, ◌≤◌, ◌+◌, ◌^◌, ◌++◌, ℕ, max, cond, ap, inl, inr, List, [], ◌∷◌, length, map, take, Option, Some, None, IfSome, Result, Ok, Err, refl, sym, subst, arith, append_assoc}
use Rattle.std.proofs.KnownBytes.{Appends-nil, Appends-trans}
use Rattle.std.proofs.lemmas.Fn.{FoldsTo-push}
use Rattle.std.proofs.lemmas.Grind.{flat_map-append}
use Rattle.std.proofs.lemmas.List.{append-nil, length-append, map-append}
use Rattle.std.proofs.lemmas.List.Sums.{fold_push}
use Rattle.std.proofs.lemmas.Option.{none-some, same_Some}
use Rattle.std.specs.Io.KnownBytes.{Appends}
use Rattle.std.specs.List.{AllZip, FoldsTo, enumerate_from, flat_map, fold}
use Rattle.fisca_forms.specs.LineForms.{Form}
use Rattle.fisca_rules.specs.declared.rule_set.RuleSet.{RuleSet}
use Rattle.fisca_writer.specs.Steps.Sink.{one_more}
use Rattle.fisca_commands.specs.CalcLines.{AreLines, AreWorkedOut, IsEndedBy, IsHanded, IsLine, IsStopped, LineOutcome, Streams, Takes, is_write, worst_of}
use Rattle.fisca_rule_files.specs.Ending.{TaskOutcome}
use Rattle.fisca_commands.specs.Steps.CalcLines.{AreFew, IsNextDone}
use Rattle.fisca_commands.specs.declared.many_files.LineStop.{LineStop}
use Rattle.fisca_commands.specs.declared.many_files.LineStop.TheVariants as stop

-- the lines that were worked out before this number, with this greatest status
pub record AreSoFar (rules : RuleSet) (form : Option Form) (path : List ℕ) (old now : Streams) (number worst : ℕ) : Type 0 where
  pub texts : List (List ℕ)
  pub outcomes : List LineOutcome
  pub left : IfSome old.left (λ all. (rest : List (List ℕ)) × (all ≡ texts ++ rest) × (now.left ≡ Some rest))
  pub count : number ≡ 1 + length texts
  pub each : AreLines rules form path texts outcomes
  pub written : Appends old.sink.taken now.sink.taken (flat_map (λ outcome. outcome.written) outcomes)
  pub unfailed : now.sink.failures ≡ old.sink.failures
  pub told : FoldsTo IsHanded old.told (map (λ outcome. outcome.told) outcomes) now.told
  pub greatest : worst ≡ worst_of outcomes
  pub few : 1 < number → AreFew old.left

-- What is left of a source

left_all : (old : Option (List (List ℕ))) → IfSome old (λ all. (rest : List (List ℕ)) × (all ≡ [] ++ rest) × (old ≡ Some rest))
left_all None = tt
left_all (Some all) = (all, refl, refl)

left_less : (old now next : Option (List (List ℕ))) (texts : List (List ℕ)) (text : List ℕ)
    → IfSome old (λ all. (rest : List (List ℕ)) × (all ≡ texts ++ rest) × (now ≡ Some rest))
    → IfSome now (λ all. (rest : List (List ℕ)) × (all ≡ text ∷ rest) × (next ≡ Some rest))
    → IfSome old (λ all. (rest : List (List ℕ)) × (all ≡ (texts ++ text ∷ []) ++ rest) × (next ≡ Some rest))
left_less None now next texts text so one = tt
left_less (Some all) None next texts text so one = absurd (none-some so.0 so.2)
left_less (Some all) (Some here) next texts text so one =
    (one.0, so.1 ∙ ap (λ rest. texts ++ rest) (sym (same_Some here so.0 so.2) ∙ one.1) ∙ sym (append_assoc texts (text ∷ []) one.0), one.2)

left_here : (old now : Option (List (List ℕ))) (texts rest : List (List ℕ))
    → IfSome old (λ all. (others : List (List ℕ)) × (all ≡ texts ++ others) × (now ≡ Some others)) → IfSome now (λ all. all ≡ rest) → IfSome old (λ all. all ≡ texts ++ rest)
left_here None now texts rest so here = tt
left_here (Some all) None texts rest so here = absurd (none-some so.0 so.2)
left_here (Some all) (Some left) texts rest so here = so.1 ∙ ap (λ others. texts ++ others) (sym (same_Some left so.0 so.2) ∙ here)

left_told : (old now new : Option (List (List ℕ))) (texts : List (List ℕ))
    → IfSome old (λ all. (others : List (List ℕ)) × (all ≡ texts ++ others) × (now ≡ Some others)) → IfSome now (λ all. new ≡ None) → IfSome old (λ all. new ≡ None)
left_told None now new texts so none = tt
left_told (Some all) None new texts so none = absurd (none-some so.0 so.2)
left_told (Some all) (Some left) new texts so none = none

few_first : (old now : Option (List (List ℕ))) (texts : List (List ℕ))
    → IfSome old (λ all. (others : List (List ℕ)) × (all ≡ texts ++ others) × (now ≡ Some others)) → AreFew now → (1 < 1 + length texts → AreFew old) → AreFew old
few_first None now texts so few before = tt
few_first (Some all) None texts so few before = absurd (none-some so.0 so.2)
few_first (Some all) (Some left) [] so few before = subst (λ (lines : List (List ℕ)). length lines < 2 ^ 63) (same_Some left so.0 so.2 ∙ sym so.1) few
few_first (Some all) (Some left) (text ∷ texts) so few before = before (omega arith)

-- a source that told its lines would have ended
none_left : (old now : Option (List (List ℕ))) (texts : List (List ℕ))
    → IfSome old (λ all. (others : List (List ℕ)) × (all ≡ texts ++ others) × (now ≡ Some others)) → AreFew old → 2 ^ 63 < length texts → old ≡ None
none_left None now texts so few many = refl
none_left (Some all) now texts so few many =
    let long : length all ≡ length texts + length so.0 = ap (λ (lines : List (List ℕ)). length lines) so.1 ∙ length-append texts so.0 in absurd (omega (arith, long))

-- One line more

each_more : {X Y : Type 0} (R : ℕ × X → Y → Type 0) (from : ℕ) (xs : List X) (ys : List Y) (x : X) (y : Y)
    → AllZip R (enumerate_from from xs) ys → R (from + length xs, x) y → AllZip R (enumerate_from from (xs ++ x ∷ [])) (ys ++ y ∷ [])
each_more {X} {Y} R from [] [] x y all one = let here : from + length {A = X} [] ≡ from = omega arith in (subst (λ number. R (number, x) y) here one, tt)
each_more R from [] (b ∷ ys) x y all one = absurd all
each_more R from (a ∷ xs) [] x y all one = absurd all
each_more R from (a ∷ xs) (b ∷ ys) x y all one =
    let here : from + length (a ∷ xs) ≡ from + 1 + length xs = omega arith in (all.0, each_more R (from + 1) xs ys x y all.1 (subst (λ number. R (number, x) y) here one))

abbrev text_of : LineOutcome → List ℕ
text_of outcome = outcome.written

abbrev told_of : LineOutcome → List ℕ
told_of outcome = outcome.told

abbrev status_of : LineOutcome → ℕ
status_of outcome = outcome.status

written_more : (outcomes : List LineOutcome) (outcome : LineOutcome) → flat_map text_of (outcomes ++ outcome ∷ []) ≡ flat_map text_of outcomes ++ outcome.written
written_more outcomes outcome = flat_map-append text_of outcomes (outcome ∷ []) ∙ ap (λ text. flat_map text_of outcomes ++ text) (append-nil outcome.written)

worst_more : (outcomes : List LineOutcome) (outcome : LineOutcome) → worst_of (outcomes ++ outcome ∷ []) ≡ max (worst_of outcomes) outcome.status
worst_more outcomes outcome = ap (fold max 0) (map-append status_of outcomes (outcome ∷ [])) ∙ fold_push max 0 (map status_of outcomes) outcome.status

-- no line so far
pub so_far_none : (rules : RuleSet) (form : Option Form) (path : List ℕ) (old : Streams) → AreSoFar rules form path old old 1 0
so_far_none rules form path old = record {
  texts = [];
  outcomes = [];
  left = left_all old.left;
  count = refl;
  each = tt;
  written = Appends-nil old.sink.taken;
  unfailed = refl;
  told = refl;
  greatest = refl;
  few = λ more. absurd (omega (arith, more));
}

-- one line more
pub so_far_more : (rules : RuleSet) (form : Option Form) (path : List ℕ) (old now next : Streams) (number worst status greater : ℕ) → greater ≡ max worst status
    → AreSoFar rules form path old now number worst → AreFew now.left → IsNextDone rules form path number now next (Ok status) → AreSoFar rules form path old next (number + 1) greater
so_far_more rules form path old now next number worst status greater is so few one =
    let text = one.0 in
    let outcome = one.1 in
    let long : length (so.texts ++ text ∷ []) ≡ length so.texts + 1 = length-append so.texts (text ∷ []) in
    record {
      texts = so.texts ++ text ∷ [];
      outcomes = so.outcomes ++ outcome ∷ [];
      left = left_less old.left now.left next.left so.texts text so.left one.2;
      count = omega (arith, long, so.count);
      each = each_more (λ line o. IsLine rules form path line.0 line.1 o) 1 so.texts so.outcomes text outcome so.each (subst (λ n. IsLine rules form path n text outcome) so.count one.3);
      written = subst (Appends old.sink.taken next.sink.taken) (sym (written_more so.outcomes outcome)) (Appends-trans _ _ _ _ _ so.written one.5.0);
      unfailed = one.5.1 ∙ so.unfailed;
      told = subst (λ (all : List (List ℕ)). FoldsTo IsHanded old.told all next.told) (sym (map-append told_of so.outcomes (outcome ∷ [])))
          (FoldsTo-push IsHanded old.told (map told_of so.outcomes) now.told outcome.told next.told so.told one.6);
      greatest = is ∙ ap (λ n. max n status) so.greatest ∙ ap (max (worst_of so.outcomes)) one.4 ∙ sym (worst_more so.outcomes outcome);
      few = λ more. few_first old.left now.left so.texts so.left few (λ other. so.few (omega (arith, so.count, other)));
    }

-- The end

stopped_at : (rules : RuleSet) (form : Option Form) (number : ℕ) (old now new : Option (List (List ℕ))) (texts rest : List (List ℕ)) (part : List ℕ) (end : LineStop)
    → IfSome old (λ all. (others : List (List ℕ)) × (all ≡ texts ++ others) × (now ≡ Some others)) → IsStopped rules form number now new rest part end → IsStopped rules form number old new rest part end
stopped_at rules form number old now new texts rest part stop.Over so is = is
stopped_at rules form number old now new texts rest part stop.Unread so is = (left_told old now new texts so is.0, is.1)
stopped_at rules form number old now new texts rest part stop.Write so is = is
stopped_at rules form number old now new texts rest part stop.Memory so is = is

-- the lines stop at the next
pub stopped : (rules : RuleSet) (form : Option Form) (path : List ℕ) (old now new : Streams) (number worst : ℕ) (end : LineStop) (outcome : TaskOutcome)
    → AreSoFar rules form path old now number worst → IsNextDone rules form path number now new (Err end) → IsEndedBy path worst end outcome → AreWorkedOut rules form path old new outcome
stopped rules form path old now new number worst end outcome so one ended = record {
  texts = so.texts;
  rest = one.0;
  had = left_here old.left now.left so.texts one.0 so.left one.2;
  outcomes = so.outcomes;
  each = so.each;
  part = one.1;
  stop = end;
  stopped = subst (λ n. IsStopped rules form n old.left new.left one.0 one.1 end) so.count (stopped_at rules form number old.left now.left new.left so.texts one.0 one.1 end so.left one.3);
  written = Appends-trans _ _ _ _ _ so.written one.4;
  failed = one.5 ∙ ap (λ n. cond (is_write end) (one_more n) n) so.unfailed;
  told = subst (FoldsTo IsHanded old.told (map told_of so.outcomes)) (sym one.6) so.told;
  ended = subst (λ n. IsEndedBy path n end outcome) so.greatest ended;
}

-- more lines than can be counted were read
pub exhausted : (rules : RuleSet) (form : Option Form) (path : List ℕ) (old now : Streams) (number worst : ℕ) (outcome : TaskOutcome)
    → AreSoFar rules form path old now number worst → 2 ^ 63 + 1 < number → IsEndedBy path worst stop.Unread outcome → AreWorkedOut rules form path old now outcome
exhausted rules form path old now number worst outcome so many ended =
    let none : old.left ≡ None = none_left old.left now.left so.texts so.left (so.few (omega (arith, many))) (omega (arith, so.count, many)) in
    record {
      texts = so.texts;
      rest = [];
      had = subst (λ (left : Option (List (List ℕ))). IfSome left (λ all. all ≡ so.texts ++ [])) (sym none) tt;
      outcomes = so.outcomes;
      each = so.each;
      part = [];
      stop = stop.Unread;
      stopped = (subst (λ (left : Option (List (List ℕ))). IfSome left (λ all. now.left ≡ None)) (sym none) tt, refl);
      written = subst (Appends old.sink.taken now.sink.taken) (sym (append-nil (flat_map text_of so.outcomes))) so.written;
      failed = so.unfailed;
      told = so.told;
      ended = subst (λ n. IsEndedBy path n stop.Unread outcome) so.greatest ended;
    }
