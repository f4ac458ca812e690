-- What nodes tell and weigh, kind by kind.
use Rattle.std.proofs.Common.{rules, ◌≡◌, ℕ, Bool, List, Option, Some, None, Result, Ok, Err, Box, Global, option_map, refl, sym, ap, ◌∙◌, append-nil, subst}
use Rattle.fisca_typing.specs.Questions.{moved_all}
use Rattle.fisca_typing.specs.Questions as questions
use Rattle.fisca_ir.specs.Views.{node}
use Rattle.fisca_ir.specs.declared.node.Node.{Node as Held, the_lemmas}
use Rattle.fisca_ir.specs.declared.node.Node.TheVariants as held
use Rattle.fisca_key_semantics.specs.Dialogues.{Dialogue}
use Rattle.fisca_machine.specs.Context.{groups, tables}
use Rattle.fisca_machine.specs.Weights.{weight, weight_below, weighing}
use Rattle.fisca_machine.specs.declared.pending.At.{At}
use Rattle.fisca_model.specs.Seen.{value_seen}
use Rattle.fisca_model.specs.Values.{Value, Key}
use Rattle.fisca_model.specs.declared.value.Value.{Value as Given}
use Rattle.fisca_num.specs.Number.{Number}
use Rattle.fisca_time.specs.Instant.{CivilDate}
use Rattle.fisca_time.specs.Period.{Span, start_of}
use Rattle.fisca_time.specs.declared.fault.TimeFault.{TimeFault}
use Rattle.fisca_typing.specs.Nodes.{Node}
use Rattle.fisca_typing.specs.Nodes as spec
use Rattle.fisca_typing.specs.declared.moves.Move.{Move}
use Rattle.fisca_simulation.specs.Followers.{locals_at, point_of, tells}
use Rattle.fisca_simulation.specs.NotedFormulas.{at_start, in_range, noted, on_start}
use Rattle.fisca_simulation.specs.Noted.{Noted, gives, stuck, unread}
use Rattle.fisca_simulation.specs.Played.{Moves, Plays, played}
use Rattle.fisca_simulation.specs.declared.follower.Follower.{Follower}
use Rattle.fisca_simulation.specs.declared.note.Note.{Note}

-- a node by what it stands for
module _ {A : Type 0} (s : Follower A) (e : Held) (at : At) (n : Node) (is : node e ≡ n) where
  pub told_as : tells s e at ≡ noted (tables s.context) (groups s.context) (locals_at s at) n (point_of s at)
  told_as = ap (λ m. noted (tables s.context) (groups s.context) (locals_at s at) m (point_of s at)) is

  pub weighs_as : weighing s.context s.locals.now s.frame e at ≡ weight (groups s.context) s.frame (weight_below (groups s.context) s.frame s.locals.now at.visible) n
  weighs_as = ap (λ m. weight (groups s.context) s.frame (weight_below (groups s.context) s.frame s.locals.now at.visible) m) is

module _ (W : Key → Option Value) where
  pub not_stuck : (d e : Noted) → d ≡ e → Moves W d → e ≡ stuck → ⊥
  not_stuck d e is m s = subst (Moves W) (is ∙ s) m

  -- a value that is there at once
  pub at_hand : (d : Noted) (v : Given) (ns : List Note) → d ≡ gives (value_seen v) → Plays (Ok v) ns ns (played W d)
  at_hand d v ns is = subst (λ x. Plays (Ok v) ns ns (played W x)) (sym is) (refl, sym (append-nil ns))

-- a day that nothing is read on
module _ (h : CivilDate → Dialogue) where
  unread_day : (o : Option CivilDate) → unread (questions.on_start o h) ≡ on_start o (λ d. unread (h d))
  unread_day None = refl
  unread_day (Some d) = refl

  unread_range : (r : Result Span TimeFault) → unread (questions.in_range r (λ q. questions.on_start (start_of q) h)) ≡ in_range r (λ q. on_start (start_of q) (λ d. unread (h d)))
  unread_range (Ok q) = unread_day (start_of q)
  unread_range (Err e) = refl

  pub unread_start : (ms : List Move) (p : Span) → unread (questions.at_start ms p h) ≡ at_start ms p (λ d. unread (h d))
  unread_start ms p = unread_range (moved_all ms p)

-- nodes without a part behind a pointer that is followed
pub literal_seen : (e : Held) (n : Number) → e ≡ held.Literal n → node e ≡ spec.literal n
literal_seen e n is = ap node is ∙ search (the_lemmas, rules)

pub truth_seen : (e : Held) (b : Bool) → e ≡ held.Truth b → node e ≡ spec.truth b
truth_seen e b is = ap node is ∙ search (the_lemmas, rules)

pub member_seen : (e : Held) (n i : ℕ) → e ≡ held.Member n i → node e ≡ spec.member n i
member_seen e n i is = ap node is ∙ search (the_lemmas, rules)

pub place_seen : (e : Held) (i : ℕ) → e ≡ held.Local i → node e ≡ spec.local i
place_seen e i is = ap node is ∙ search (the_lemmas, rules)

pub date_seen : (e : Held) (p : _) (ms : _) → e ≡ held.DatePart p ms → node e ≡ spec.date_part p ms.value.items
date_seen e p ms is = ap node is ∙ search (the_lemmas, rules)

pub role_seen : (e : Held) (g : ℕ) (r : _) → e ≡ held.HasRole g r → node e ≡ spec.has_role g r.value
role_seen e g r is = ap node is ∙ search (the_lemmas, rules)

pub count_seen : (e : Held) (g : ℕ) (r : _) → e ≡ held.Count g r → node e ≡ spec.count g (option_map (λ b. b.value) r)
count_seen e g r is = ap node is ∙ search (the_lemmas, rules)

pub unary_seen : (e : Held) (o : _) (x : Box Held Global) → e ≡ held.Unary o x → node e ≡ spec.unary o (node x.value)
unary_seen e o x is = ap node is ∙ search (the_lemmas, rules)
