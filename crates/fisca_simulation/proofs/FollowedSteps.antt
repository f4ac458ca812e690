-- What operations need and leave, where dialogues are followed.
use Rattle.std.proofs.Common.{◌≡◌, ◌∙◌, List, [], ◌∷◌, ◌++◌, Option, Result, Ok, Err, ap, subst, append_assoc}
use Rattle.fisca_model.specs.Seen.{value_seen}
use Rattle.fisca_model.specs.Values.{Value, Key}
use Rattle.fisca_model.specs.declared.value.Value.{Value as Given}
use Rattle.fisca_key_semantics.specs.Dialogues.{Dialogue}
use Rattle.fisca_key_semantics.specs.Dialogues as plain
use Rattle.fisca_ops.specs.Ended.{IsMoving, ended}
use Rattle.fisca_ops.specs.declared.fault.OperationFault.{OperationFault}
use Rattle.fisca_simulation.specs.NotedFormulas.{of_two}
use Rattle.fisca_simulation.specs.Noted.{Noted, behind, unread}
use Rattle.fisca_simulation.specs.Played.{Moves, Played, Plays, after, played}
use Rattle.fisca_simulation.specs.declared.note.Halted.{Halted}
use Rattle.fisca_simulation.specs.declared.note.Halted.TheVariants as halted
use Rattle.fisca_simulation.specs.declared.note.Note.{Note}
use Rattle.fisca_simulation.proofs.Playing.{moves_first, moves_next, plays_end, plays_next}

module _ (W : Key → Option Value) where
  -- a dialogue that moves somewhere is not stuck
  pub moving_of : (d : Dialogue) → Moves W (unread d) → IsMoving d
  moving_of (plain.gives v) m = tt
  moving_of (plain.fails e) m = tt
  moving_of plain.stuck m = m
  moving_of (plain.asks k g) m = tt

  -- of one operand
  pub one_moving : (d : Noted) (f : Value → Dialogue) (v : Given) (old mid : List Note) → Moves W (behind d (λ x. unread (f x))) → Plays (Ok v) old mid (played W d) → IsMoving (f (value_seen v))
  one_moving d f v old mid m p = moving_of (f (value_seen v)) (moves_next W d (λ x. unread (f x)) (value_seen v) m p.0)

  -- of two operands
  pub left_moves : (o : Value → Value → Dialogue) (a b : Noted) → Moves W (of_two o a b) → Moves W a
  left_moves o a b m = moves_first W a _ m

  pub right_moves : (o : Value → Value → Dialogue) (a b : Noted) (v : Given) (old mid : List Note) → Moves W (of_two o a b) → Plays (Ok v) old mid (played W a) → Moves W b
  right_moves o a b v old mid m p = moves_first W b _ (moves_next W a _ (value_seen v) m p.0)

  pub two_moving : (o : Value → Value → Dialogue) (a b : Noted) (v w : Given) (old mid new : List Note) → Moves W (of_two o a b) → Plays (Ok v) old mid (played W a) → Plays (Ok w) mid new (played W b)
      → IsMoving (o (value_seen v) (value_seen w))
  two_moving o a b v w old mid new m p q =
      moving_of (o (value_seen v) (value_seen w)) (moves_next W b (λ y. unread (o (value_seen v) y)) (value_seen w) (moves_next W a (λ x. behind b (λ y. unread (o x y))) (value_seen v) m p.0) q.0)

  pub two_plays : (o : Value → Value → Dialogue) (a b : Noted) (v w : Given) (r : Result Given Halted) (old mid new : List Note) → Plays (Ok v) old mid (played W a) → Plays (Ok w) mid new (played W b)
      → Plays r new new (played W (unread (o (value_seen v) (value_seen w)))) → Plays r old new (played W (of_two o a b))
  two_plays o a b v w r old mid new p q last =
      plays_next W a (λ x. behind b (λ y. unread (o x y))) v r old mid new p (plays_next W b (λ y. unread (o (value_seen v) y)) w r mid new new q last)

  pub left_ends : (o : Value → Value → Dialogue) (a b : Noted) (h : Halted) (old new : List Note) → Plays (Err h) old new (played W a) → Plays (Err h) old new (played W (of_two o a b))
  left_ends o a b h old new p = plays_end W a _ h old new p

  pub right_ends : (o : Value → Value → Dialogue) (a b : Noted) (v : Given) (h : Halted) (old mid new : List Note) → Plays (Ok v) old mid (played W a) → Plays (Err h) mid new (played W b)
      → Plays (Err h) old new (played W (of_two o a b))
  right_ends o a b v h old mid new p q = plays_next W a (λ x. behind b (λ y. unread (o x y))) v (Err h) old mid new p (plays_end W b _ h mid new q)

  -- what ends at once behind values
  pub at_once : (r : Result Given Halted) (out : Result Given OperationFault) (d : Dialogue) (ns : List Note) → ended out ≡ d
      → ((w : Key → Option Value) (ms : List Note) → Plays r ms ms (played w (unread (ended out)))) → Plays r ns ns (played W (unread d))
  at_once r out d ns e h = subst (λ x. Plays r ns ns (played W (unread x))) e (h W ns)

  pub one_ended : (d : Noted) (f : Value → Dialogue) (v : Given) (r : Result Given Halted) (out : Result Given OperationFault) (old mid : List Note) → Plays (Ok v) old mid (played W d)
      → ended out ≡ f (value_seen v) → ((w : Key → Option Value) (ms : List Note) → Plays r ms ms (played w (unread (ended out)))) → Plays r old mid (played W (behind d (λ x. unread (f x))))
  one_ended d f v r out old mid p e h = plays_next W d (λ x. unread (f x)) v r old mid mid p (at_once r out (f (value_seen v)) mid e h)

  pub two_ended : (o : Value → Value → Dialogue) (a b : Noted) (v w : Given) (r : Result Given Halted) (out : Result Given OperationFault) (old mid new : List Note)
      → Plays (Ok v) old mid (played W a) → Plays (Ok w) mid new (played W b) → ended out ≡ o (value_seen v) (value_seen w)
      → ((x : Key → Option Value) (ms : List Note) → Plays r ms ms (played x (unread (ended out)))) → Plays r old new (played W (of_two o a b))
  two_ended o a b v w r out old mid new p q e h = two_plays o a b v w r old mid new p q (at_once r out (o (value_seen v) (value_seen w)) new e h)

  -- one more note
  pub noted_first : (n : Note) (p : Played) (r : Result Given Halted) (old mid new : List Note) → mid ≡ old ++ n ∷ [] → Plays r mid new p → Plays r old new (after n p)
  noted_first n p r old mid new e q = by r q
    where
      longer : new ≡ mid ++ p.notes → new ≡ old ++ n ∷ p.notes
      longer x = x ∙ ap (λ ns. ns ++ p.notes) e ∙ append_assoc old (n ∷ []) p.notes

      by : (s : Result Given Halted) → Plays s mid new p → Plays s old new (after n p)
      by (Ok w) x = (x.0, longer x.1)
      by (Err (halted.Fault f)) x = (x.0, longer x.1)
      by (Err halted.Unanswered) x = (x.0, longer x.1)
      by (Err halted.Memory) x = tt
