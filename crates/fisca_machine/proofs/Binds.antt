-- What a node says before k is what it means, and then k.
use Rattle.std.proofs.Common.{◌≡◌, ℕ, ◌+◌, ◌*◌, List, [], ◌∷◌, Option, Some, None, Result, Ok, Err, true, false, refl, sym, ap, ap₂, ◌∙◌, slice_get}
use Rattle.fisca_num.specs.Number.{Number}
use Rattle.fisca_typing.specs.Answers.{arithmetic_of, logic_of, comparison_of, same_of, unary_of}
use Rattle.fisca_model.specs.Values.{Value, number, bool, member}
use Rattle.fisca_key_semantics.specs.Dialogues.{Dialogue, gives, fails, stuck, asks, ◌>>=◌, with_number, with_member}
use Rattle.fisca_typing.specs.Meaning.{mean, at_index, at_person, in_turn, from_first, total_over, chosen, local_at}
use Rattle.fisca_typing.specs.Meaning as meaning
use Rattle.fisca_model.specs.Groups.{Groups, Point, persons_at}
use Rattle.fisca_typing.specs.Questions.{at_start, in_range, on_start, moved_all}
use Rattle.fisca_time.specs.Instant.{CivilDate}
use Rattle.fisca_time.specs.Period.{Span, start_of}
use Rattle.fisca_time.specs.declared.fault.TimeFault.{TimeFault}
use Rattle.fisca_typing.specs.declared.moves.Move.{Move}
use Rattle.fisca_typing.specs.declared.operations.Arithmetic.TheVariants as arith
use Rattle.fisca_typing.specs.declared.operations.Logic.TheVariants as logic
use Rattle.fisca_typing.specs.declared.operations.Total.{Total}
use Rattle.fisca_typing.specs.declared.operations.Total.TheVariants as total
use Rattle.fisca_typing.specs.Nodes as node
use Rattle.fisca_typing.specs.Nodes.{Node, Indices, no_index, index}
use Rattle.fisca_model.specs.Tables.{Tables}
use Rattle.fisca_machine.specs.Running.{After, Locals, says, chooses, turn_then, first_then, total_then}

-- two ways to go on are alike where they are alike at each value
abbrev same_after : {f g : After} → ((v : Value) → f v ≡ g v) → f ≡ g
same_after h = λ i v. h v i

pub assoc : (d : Dialogue) (f g : After) → d >>= f >>= g ≡ d >>= (λ x. f x >>= g)
assoc (gives v) f g = refl
assoc (fails e) f g = refl
assoc stuck f g = refl
assoc (asks q go) f g = ap (asks q) (same_after (λ v. assoc (go v) f g))

pub next : (d : Dialogue) (f g : After) → ((v : Value) → f v ≡ g v) → d >>= f ≡ d >>= g
next d f g h = ap (λ k. d >>= k) (same_after h)

number_on : (x : Value) (f : Number → Dialogue) (k : After) → with_number x (λ n. f n >>= k) ≡ with_number x f >>= k
number_on (number n) f k = refl
number_on (bool true) f k = refl
number_on (bool false) f k = refl
number_on (member i) f k = refl

member_on : (x : Value) (f : ℕ → Dialogue) (k : After) → with_member x (λ n. f n >>= k) ≡ with_member x f >>= k
member_on (number n) f k = refl
member_on (bool b) f k = refl
member_on (member i) f k = refl

day_on : (o : Option CivilDate) (f : CivilDate → Dialogue) (k : After) → on_start o (λ d. f d >>= k) ≡ on_start o f >>= k
day_on None f k = refl
day_on (Some d) f k = refl

range_on : (r : Result Span TimeFault) (f : CivilDate → Dialogue) (k : After) → in_range r (λ q. on_start (start_of q) (λ d. f d >>= k)) ≡ in_range r (λ q. on_start (start_of q) f) >>= k
range_on (Err e) f k = refl
range_on (Ok q) f k = day_on (start_of q) f k

start_on : (ms : List Move) (q : Span) (f : CivilDate → Dialogue) (k : After) → at_start ms q (λ d. f d >>= k) ≡ at_start ms q f >>= k
start_on ms q f k = range_on (moved_all ms q) f k

start_same : (ms : List Move) (q : Span) (f g : CivilDate → Dialogue) → ((d : CivilDate) → f d ≡ g d) → at_start ms q f ≡ at_start ms q g
start_same ms q f g h = ap (at_start ms q) (λ i d. h d i)

chosen_on : (x : Value) (a b : Dialogue) (k : After) → chosen x (a >>= k) (b >>= k) ≡ chosen x a b >>= k
chosen_on (number n) a b k = refl
chosen_on (bool true) a b k = refl
chosen_on (bool false) a b k = refl
chosen_on (member i) a b k = refl

module _ (step : Value → Value → Dialogue) (e : ℕ → After → Dialogue) (d : ℕ → Dialogue) (h : (m : ℕ) (k : After) → e m k ≡ d m >>= k) where
  turn_on : (ms : List ℕ) (sum : Value) (k : After) → turn_then step e ms sum k ≡ in_turn step d ms sum >>= k
  turn_on [] sum k = refl
  turn_on (m ∷ ms) sum k =
      h m _ ∙ next (d m) _ _ (λ x. next (step sum x) _ _ (λ s. turn_on ms s k) ∙ sym (assoc (step sum x) _ k)) ∙ sym (assoc (d m) _ k)

  first_on : (ms : List ℕ) (k : After) → first_then step e ms k ≡ from_first step d ms >>= k
  first_on [] k = refl
  first_on (m ∷ ms) k =
      h m _ ∙ next (d m) _ _ (λ x. ap (with_number x) (λ i n. turn_on ms (number n) k i) ∙ number_on x _ k) ∙ sym (assoc (d m) _ k)

total_on : (o : Total) (e : ℕ → After → Dialogue) (d : ℕ → Dialogue) → ((m : ℕ) (k : After) → e m k ≡ d m >>= k) → (ms : List ℕ) (k : After) → total_then o e ms k ≡ total_over o d ms >>= k
total_on total.Sum e d h ms k = turn_on (arithmetic_of arith.Add) e d h ms _ k
total_on total.Min e d h ms k = first_on (arithmetic_of arith.Min) e d h ms k
total_on total.Max e d h ms k = first_on (arithmetic_of arith.Max) e d h ms k
total_on total.Any e d h ms k = turn_on (logic_of logic.Or) e d h ms _ k
total_on total.All e d h ms k = turn_on (logic_of logic.And) e d h ms _ k

module _ (c : Tables) (g : Groups) (E : Locals) (ls : meaning.Locals) (h : (i : ℕ) (p : Point) (k : After) → E i p k ≡ local_at (slice_get ls i) p >>= k) where
  mutual
    pub says_on : (n : Node) (p : Point) (k : After) → says c g E n p k ≡ mean c g ls n p >>= k
    says_on (node.literal n) p k = refl
    says_on (node.truth b) p k = refl
    says_on (node.member e i) p k = refl
    says_on (node.local i) p k = h i p k
    says_on (node.date_part d ms) p k = refl
    says_on (node.ask v w how ms) p k = refl
    says_on (node.has_role e r) p k = refl
    says_on (node.count e r) p k = refl
    says_on (node.total o r a) p k = total_on o _ _ (λ m j. says_on a (at_person p m) j) (persons_at g p r) k
    says_on (node.unary o a) p k = says_on a p _ ∙ sym (assoc (mean c g ls a p) (unary_of o) k)
    says_on (node.arithmetic o a b) p k = says_on a p _ ∙ next (mean c g ls a p) _ _ (λ x. says_on b p _ ∙ sym (assoc (mean c g ls b p) (arithmetic_of o x) k)) ∙ sym (assoc (mean c g ls a p) _ k)
    says_on (node.logic o a b) p k = says_on a p _ ∙ next (mean c g ls a p) _ _ (λ x. says_on b p _ ∙ sym (assoc (mean c g ls b p) (logic_of o x) k)) ∙ sym (assoc (mean c g ls a p) _ k)
    says_on (node.comparison o a b) p k = says_on a p _ ∙ next (mean c g ls a p) _ _ (λ x. says_on b p _ ∙ sym (assoc (mean c g ls b p) (comparison_of o x) k)) ∙ sym (assoc (mean c g ls a p) _ k)
    says_on (node.same a b) p k = says_on a p _ ∙ next (mean c g ls a p) _ _ (λ x. says_on b p _ ∙ sym (assoc (mean c g ls b p) (same_of x) k)) ∙ sym (assoc (mean c g ls a p) _ k)
    says_on (node.choose q a b) p k =
        says_on q p _ ∙ next (mean c g ls q p) _ _ (λ x. ap₂ (chosen x) (says_on a p k) (says_on b p k) ∙ chosen_on x (mean c g ls a p) (mean c g ls b p) k) ∙ sym (assoc (mean c g ls q p) _ k)
    says_on (node.parameter is places ms) p k = start_same ms p.period _ _ (λ day. chooses_on is 0 p _ k) ∙ start_on ms p.period _ k
    says_on (node.scale_sum place ms a) p k = start_same ms p.period _ _ (λ day. says_on a p _ ∙ sym (assoc (mean c g ls a p) _ k)) ∙ start_on ms p.period _ k

    chooses_on : (is : Indices) (i : ℕ) (p : Point) (f : ℕ → Dialogue) (k : After) → chooses c g E is i p (λ j. f j >>= k) ≡ at_index c g ls is i p f >>= k
    chooses_on no_index i p f k = refl
    chooses_on (index n size is) i p f k =
        says_on n p _ ∙ next (mean c g ls n p) _ _ (λ x. ap (with_member x) (λ z j. chooses_on is (i * size + j) p f k z) ∙ member_on x _ k) ∙ sym (assoc (mean c g ls n p) _ k)
