-- What lines of keys say stays while more is put on them.
use Rattle.std.proofs.Common.{◌≡◌, ◌∙◌, ℕ, [], List, Option, Some, None, Result, Ok, Err, Bor, ap, option_map, refl, string_bytes, sym}
use Rattle.fisca_columns.specs.Texts.{value_text}
use Rattle.fisca_explanation.specs.Explanations.{Reason, above, at_hand, beyond, unfit, worked}
use Rattle.fisca_groups.specs.declared.entity_members.EntityMembers.{EntityMembers}
use Rattle.fisca_model.specs.EvalFaults.{name_of as fault_name}
use Rattle.fisca_model.specs.Seen.{value_seen}
use Rattle.fisca_model.specs.Tables.{Tables}
use Rattle.fisca_model.specs.Values.{Key, Value}
use Rattle.fisca_model.specs.declared.eval_fault.EvalFault.{EvalFault}
use Rattle.fisca_model.specs.declared.value.Value.{Value as Given}
use Rattle.fisca_model.specs.declared.value.Value.TheVariants as given
use Rattle.fisca_simulation.specs.Told.{value_of}
use Rattle.fisca_explain.specs.Explained.{of_key}
use Rattle.fisca_explain.specs.Lines.{KeepsKey, fault_in, value_in}
use Rattle.fisca_explain.specs.Says.{AreAnswer, HasAnswer, IfAbove, Names, NamesKey, Says}
use Rattle.fisca_explain.specs.declared.line.Kind.TheVariants as kind
use Rattle.fisca_explain.specs.declared.line.Line.{Line}
use Rattle.fisca_explain.specs.declared.line.Source.TheVariants as source

-- the members have no part in the answer
pub answer_among : (t : Tables) (a b : List EntityMembers) (f : EvalFault) (variable : ℕ) (v : Option Value) (l : Line)
    → HasAnswer (record { tables = t; members = a; fault = f }) variable v l → HasAnswer (record { tables = t; members = b; fault = f }) variable v l
answer_among t a b f variable None l h = h
answer_among t a b f variable (Some v) l h = h

answer_stays : (n : Names) (variable : ℕ) (v : Option Value) (old new : Line) → new.value ≡ old.value → new.fault ≡ old.fault → HasAnswer n variable v old → HasAnswer n variable v new
answer_stays n variable None old new value fault h = (ap (λ (b : Bor (List ℕ)). b.now) fault ∙ h.0, ap (λ s. string_bytes s) value ∙ h.1)
answer_stays n variable (Some v) old new value fault h = (ap (λ (b : Bor (List ℕ)). b.now) fault ∙ h.0, ap (λ s. string_bytes s) value ∙ h.1)

names_stay : (n : Names) (k : Key) (old new : Line) → new.name ≡ old.name → new.member ≡ old.member → new.period ≡ old.period → NamesKey n k old → NamesKey n k new
names_stay n k old new name member period h =
    (ap (λ s. string_bytes s) name ∙ h.0, ap (λ s. string_bytes s) member ∙ h.1, ap (λ s. string_bytes s) period ∙ h.2)

module _ (n : Names) (depth : ℕ) (k : Key) (v : Option Value) where
  -- what is said of a key, beside where its value comes from
  pub says_still : (old new : Line) → KeepsKey old new → Says n (of_key depth k v unfit) old → (reason : Reason) → IfAbove reason new → Says n (of_key depth k v reason) new
  says_still old new keeps says reason from =
      (keeps.0 ∙ says.0, keeps.1 ∙ says.1, names_stay n k old new keeps.2 keeps.3 keeps.4 says.2, answer_stays n k.variable v old new keeps.5 keeps.6 says.3, from)

  pub says_as_it_is : (l : Line) → Says n (of_key depth k v unfit) l → (reason : Reason) → IfAbove reason l → Says n (of_key depth k v reason) l
  says_as_it_is l says reason from = (says.0, says.1, says.2, says.3, from)

  -- a line with a name, and then an answer
  pub says_made : (first second third : Line) → second ≡ record first { name = second.name; member = second.member; period = second.period }
      → third ≡ record second { value = third.value; is_bare = third.is_bare; fault = third.fault }
      → first.kind ≡ kind.Key → first.depth ≡ depth → NamesKey n k second → HasAnswer n k.variable v third → Says n (of_key depth k v unfit) third
  says_made first second third second_is third_is kind_is depth_is names answer = (
    ap (λ (l : Line). l.kind) third_is ∙ ap (λ (l : Line). l.kind) second_is ∙ kind_is,
    ap (λ (l : Line). l.depth) third_is ∙ ap (λ (l : Line). l.depth) second_is ∙ depth_is,
    names_stay n k second third (ap (λ (l : Line). l.name) third_is) (ap (λ (l : Line). l.member) third_is) (ap (λ (l : Line). l.period) third_is) names,
    answer,
    tt,
  )

-- one that comes from above, where nothing is said of what its value comes from, may be there for any reason
pub any_reason : {O : Type 0} (origin : Option O) (l : Line) (reason : Reason) → (reason ≡ above → origin ≡ None) → (origin ≡ None → l.source ≡ source.Above) → IfAbove reason l
any_reason origin l unfit none from = tt
any_reason origin l at_hand none from = tt
any_reason origin l beyond none from = tt
any_reason origin l worked none from = tt
any_reason origin l above none from = from (none refl)

-- the answer of a line

pub seen_back : (v : Given) → value_of (value_seen v) ≡ v
seen_back (given.Number n) = refl
seen_back (given.Bool b) = refl
seen_back (given.Member i) = refl

module _ (t : Tables) (a : List EntityMembers) (variable : ℕ) (r : Result Given EvalFault) (fault value : List ℕ) where
  pub value_put : (v : Given) → r ≡ Ok v → fault ≡ [] → value ≡ value_text t variable v
      → AreAnswer (record { tables = t; members = a; fault = fault_in r }) variable (option_map value_seen (value_in r)) fault value
  value_put v is none text = rw is (none, text ∙ ap (value_text t variable) (sym (seen_back v)))

  pub fault_put : (e : EvalFault) → r ≡ Err e → fault ≡ fault_name e → value ≡ []
      → AreAnswer (record { tables = t; members = a; fault = fault_in r }) variable (option_map value_seen (value_in r)) fault value
  fault_put e is named none = rw is (named, none)
