-- A dialogue that tells, beside the keys that it asks for, which parameters and scales it reads.
use Rattle.fisca_model.specs.Values.{Value, Key}
use Rattle.fisca_key_semantics.specs.Dialogues.{Dialogue, OperationFault}
use Rattle.fisca_key_semantics.specs.Dialogues as plain
use Rattle.fisca_simulation.specs.declared.note.Reading.{Reading}

pub data Noted : Type 0 where
  gives : Value → Noted
  fails : OperationFault → Noted
  stuck : Noted
  asks : Key → (Value → Noted) → Noted
  reads : Reading → Noted → Noted

-- one after another
abbrev pub behind : Noted → (Value → Noted) → Noted
behind (gives v) f = f v
behind (fails e) f = fails e
behind stuck f = stuck
behind (asks k g) f = asks k (λ v. behind (g v) f)
behind (reads r d) f = reads r (behind d f)

-- a dialogue that reads nothing
abbrev pub unread : Dialogue → Noted
unread (plain.gives v) = gives v
unread (plain.fails e) = fails e
unread plain.stuck = stuck
unread (plain.asks k g) = asks k (λ v. unread (g v))

-- the dialogue, without what it reads
abbrev pub erased : Noted → Dialogue
erased (gives v) = plain.gives v
erased (fails e) = plain.fails e
erased stuck = plain.stuck
erased (asks k g) = plain.asks k (λ v. erased (g v))
erased (reads r d) = erased d
