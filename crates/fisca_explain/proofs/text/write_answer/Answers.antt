use Rattle.std.proofs.Common.{◌≡◌, ◌∙◌, ◌++◌, ◌∷◌, ◌==◌, [], ℕ, List, false, Result, Ok, Err, OnOk, if◌then◌else◌, codes, length, ap, append_assoc, rules, string_bytes}
use Rattle.std.specs.Result.{is_ok}
use Rattle.fisca_explain.specs.LineTexts.{answer_or}
use Rattle.fisca_explain.proofs.text.write_answer.Goals as goal

-- why there is no value, behind what stands before it
fault_behind : {X Y : Type 0} (r : Result X Y) (fault value unit old mid new : List ℕ) → (length fault == 0) ≡ false → mid ≡ old ++ codes " has no value, "
    → new ≡ (if is_ok r then mid ++ fault else mid) → OnOk r (new ≡ old ++ answer_or fault value unit)
fault_behind (Err e) fault value unit old mid new some first second = tt
fault_behind (Ok x) [] value unit old mid new some first second = cc
fault_behind (Ok x) (c ∷ cs) value unit old mid new some first second = second ∙ ap (λ (t : List ℕ). t ++ c ∷ cs) first ∙ append_assoc old (codes " has no value, ") (c ∷ cs)

pub returns-then-not-is_empty : goal.returns-then-not-is_empty
returns-then-not-is_empty c =
    let line = c.args.line.now in
    let some : (length line.fault.now == 0) ≡ false = search rules in
    fault_behind c.push_str-then-not-is_empty.result line.fault.now (string_bytes line.value) (string_bytes line.unit) _ _ _ some c.in_ok-push_str.ensures.bytes c.push_str-then-not-is_empty.ensures.bytes
