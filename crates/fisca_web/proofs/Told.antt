-- What a page is told of an end, by the parts in which it comes.
use Rattle.std.proofs.Common.{◌≡◌, ℕ, false, List, [], Option, Some, Result, Ok, Err, is_err, OnOk, subst, ap, ◌∙◌, unwrap_or}
use Rattle.fisca_commands.specs.CalcLines.{streams_of}
use Rattle.fisca_params.specs.Source.{Source}
use Rattle.fisca_rule_files.specs.Ending.{TaskOutcome}
use Rattle.fisca_web.specs.Reply.{IsAnswered, Says}
use Rattle.fisca_web.specs.declared.reply.Reply.{Reply}

-- the line and the status are those of the end
pub said : (written line : List ℕ) (status : ℕ) (room : List ℕ) (reply : Reply) (outcome : TaskOutcome) → line ≡ unwrap_or outcome.told [] → status ≡ outcome.status
    → Says written line status room reply → Says written (unwrap_or outcome.told []) outcome.status room reply
said written line status room reply outcome l s says =
    subst (λ (told : List ℕ). Says written told outcome.status room reply) l (subst (λ (n : ℕ). Says written line n room reply) s says)

-- the sink held nothing at first
pub begun : (Ends : Option (List ℕ) → Option (List ℕ) → TaskOutcome → Type 0) (first written : List ℕ) (outcome : TaskOutcome) → first ≡ []
    → Ends (Some first) (Some written) outcome → Ends (Some []) (Some written) outcome
begun Ends first written outcome e ending = subst (λ (bytes : List ℕ). Ends (Some bytes) (Some written) outcome) e ending

-- what is handed over is taken where that did not fail
pub handed : {T E : Type 0} (P : Type 0) (r : Result T E) → is_err r ≡ false → OnOk r P → P
handed P (Ok x) e p = p
handed P (Err x) e p = absurd cc

-- lines begin with all of them, and with sinks that hold nothing
pub first : (left all : List (List ℕ)) (taken : List ℕ) (failures : ℕ) (told : List ℕ) (told_failures : ℕ) → left ≡ all → taken ≡ [] → failures ≡ 0 → told ≡ [] → told_failures ≡ 0
    → streams_of (Some left) (Some taken) failures (Some told) told_failures ≡ streams_of (Some all) (Some []) 0 (Some []) 0
first left all taken failures told told_failures l t f s g =
    ap (λ (x : List (List ℕ)). streams_of (Some x) (Some taken) failures (Some told) told_failures) l
    ∙ (ap (λ (x : List ℕ). streams_of (Some all) (Some x) failures (Some told) told_failures) t
    ∙ (ap (λ (x : ℕ). streams_of (Some all) (Some []) x (Some told) told_failures) f
    ∙ (ap (λ (x : List ℕ). streams_of (Some all) (Some []) 0 (Some x) told_failures) s
    ∙ ap (λ (x : ℕ). streams_of (Some all) (Some []) 0 (Some []) x) g)))

-- the same of equal words, files and texts
pub answered : (words of_words : List (List ℕ)) (rules of_rules tests of_tests : List Source) (text of_text room : List ℕ) (reply : Reply)
    → words ≡ of_words → rules ≡ of_rules → tests ≡ of_tests → text ≡ of_text → IsAnswered words rules tests text room reply → IsAnswered of_words of_rules of_tests of_text room reply
answered words of_words rules of_rules tests of_tests text of_text room reply w r t x answer =
    subst (λ (it : List ℕ). IsAnswered of_words of_rules of_tests it room reply) x
    (subst (λ (it : List Source). IsAnswered of_words of_rules it text room reply) t
    (subst (λ (it : List Source). IsAnswered of_words it tests text room reply) r
    (subst (λ (it : List (List ℕ)). IsAnswered it rules tests text room reply) w answer)))
