-- How noted dialogues are played one behind another.
use Rattle.std.proofs.Common.{◌≡◌, List, [], ◌∷◌, ◌++◌, Option, Some, None, Result, Ok, Err, refl, sym, ap, ◌∙◌, subst, append_assoc}
use Rattle.fisca_model.specs.Seen.{key_of, value_seen}
use Rattle.fisca_model.specs.Values.{Value, Key}
use Rattle.fisca_model.specs.declared.value.Value.{Value as Given}
use Rattle.fisca_simulation.specs.Noted.{Noted, gives, fails, stuck, asks, reads, behind}
use Rattle.fisca_simulation.specs.Played.{End, Played, Moves, IsSomewhere, Plays, after, fault, nowhere, on_answer, played, unanswered, value}
use Rattle.fisca_simulation.specs.declared.note.Halted.{Halted}
use Rattle.fisca_simulation.specs.declared.note.Halted.TheVariants as halted
use Rattle.fisca_simulation.specs.declared.note.Note.{Note}
use Rattle.fisca_simulation.specs.declared.note.Note.TheVariants as note

-- what comes behind an end
abbrev pub ending : List Note → End → (Value → Played) → Played
ending ns (value v) f = record { notes = ns ++ (f v).notes; end = (f v).end }
ending ns (fault e) f = record { notes = ns; end = fault e }
ending ns unanswered f = record { notes = ns; end = unanswered }
ending ns nowhere f = record { notes = ns; end = nowhere }

abbrev pub joined : Played → (Value → Played) → Played
joined p f = ending p.notes p.end f

after_joined : (n : Note) (ns : List Note) (e : End) (f : Value → Played) → ending (n ∷ ns) e f ≡ after n (ending ns e f)
after_joined n ns (value v) f = refl
after_joined n ns (fault e) f = refl
after_joined n ns unanswered f = refl
after_joined n ns nowhere f = refl

module _ (W : Key → Option Value) where
  pub played_behind : (d : Noted) (f : Value → Noted) → played W (behind d f) ≡ joined (played W d) (λ v. played W (f v))
  played_behind (gives v) f = refl
  played_behind (fails e) f = refl
  played_behind stuck f = refl
  played_behind (asks k go) f = by (λ v. played_behind (go v) f) (W k)
    where
      by : ((v : Value) → played W (behind (go v) f) ≡ joined (played W (go v)) (λ w. played W (f w))) → (o : Option Value) → after (note.Asked (key_of k)) (on_answer o (λ v. played W (behind (go v) f))) ≡ joined (after (note.Asked (key_of k)) (on_answer o (λ v. played W (go v)))) (λ v. played W (f v))
      by ih None = refl
      by ih (Some v) = ap (after (note.Asked (key_of k))) (ih v) ∙ sym (after_joined (note.Asked (key_of k)) (played W (go v)).notes (played W (go v)).end (λ w. played W (f w)))
  played_behind (reads r d) f = ap (after (note.Read r)) (played_behind d f) ∙ sym (after_joined (note.Read r) (played W d).notes (played W d).end (λ w. played W (f w)))

  -- where the whole moves, so does its beginning, and what comes behind its value
  pub moves_first : (d : Noted) (f : Value → Noted) → Moves W (behind d f) → Moves W d
  moves_first d f m = by (played W d) (subst (λ (p : Played). IsSomewhere p.end) (played_behind d f) m)
    where
      by : (p : Played) → IsSomewhere (joined p (λ v. played W (f v))).end → IsSomewhere p.end
      by p m' = by_end p.end m'
        where
          by_end : (e : End) → IsSomewhere (ending p.notes e (λ v. played W (f v))).end → IsSomewhere e
          by_end (value v) s = tt
          by_end (fault e) s = tt
          by_end unanswered s = tt
          by_end nowhere s = s

  pub moves_next : (d : Noted) (f : Value → Noted) (v : Value) → Moves W (behind d f) → (played W d).end ≡ value v → Moves W (f v)
  moves_next d f v m e =
      let there = subst (λ (p : Played). IsSomewhere p.end) (played_behind d f) m in
      subst (λ (x : End). IsSomewhere (ending (played W d).notes x (λ w. played W (f w))).end) e there

  -- a value, and what comes behind it
  pub plays_next : (d : Noted) (f : Value → Noted) (v : Given) (r : Result Given Halted) (old mid new : List Note)
      → Plays (Ok v) old mid (played W d) → Plays r mid new (played W (f (value_seen v))) → Plays r old new (played W (behind d f))
  plays_next d f v r old mid new first rest = subst (Plays r old new) (sym (played_behind d f)) (by r rest)
    where
      longer : (more : List Note) → new ≡ mid ++ more → new ≡ old ++ ((played W d).notes ++ more)
      longer more e = e ∙ ap (λ ns. ns ++ more) first.1 ∙ append_assoc old (played W d).notes more

      by : (s : Result Given Halted) → Plays s mid new (played W (f (value_seen v))) → Plays s old new (joined (played W d) (λ w. played W (f w)))
      by (Ok w) q = rw (first.0) (q.0, longer _ q.1)
      by (Err (halted.Fault e)) q = rw (first.0) (q.0, longer _ q.1)
      by (Err halted.Unanswered) q = rw (first.0) (q.0, longer _ q.1)
      by (Err halted.Memory) q = tt

  -- no value, and nothing comes behind it
  pub plays_end : (d : Noted) (f : Value → Noted) (h : Halted) (old new : List Note) → Plays (Err h) old new (played W d) → Plays (Err h) old new (played W (behind d f))
  plays_end d f h old new q = subst (Plays (Err h) old new) (sym (played_behind d f)) (by h q)
    where
      by : (x : Halted) → Plays (Err x) old new (played W d) → Plays (Err x) old new (joined (played W d) (λ w. played W (f w)))
      by (halted.Fault e) q = rw (q.0) (refl, q.1)
      by halted.Unanswered q = rw (q.0) (refl, q.1)
      by halted.Memory q = tt

  -- what is left of a dialogue behind what was noted
  abbrev pub Leads : Noted → List Note → Noted → Type 0
  Leads whole done left = ((played W whole).notes ≡ done ++ (played W left).notes) × ((played W whole).end ≡ (played W left).end)

  pub leads_here : (whole : Noted) → Leads whole [] whole
  leads_here whole = (refl, refl)

  pub leads_same : (whole left other : Noted) (done : List Note) → left ≡ other → Leads whole done left → Leads whole done other
  leads_same whole left other done e lead = subst (Leads whole done) e lead

  pub leads_next : (whole d : Noted) (f : Value → Noted) (v : Value) (done : List Note) → Leads whole done (behind d f) → (played W d).end ≡ value v → Leads whole (done ++ (played W d).notes) (f v)
  leads_next whole d f v done lead e =
      let split : played W (behind d f) ≡ ending (played W d).notes (value v) (λ w. played W (f w)) = played_behind d f ∙ ap (λ x. ending (played W d).notes x (λ w. played W (f w))) e in
      (lead.0 ∙ ap (λ (p : Played). done ++ p.notes) split ∙ sym (append_assoc done (played W d).notes (played W (f v)).notes), lead.1 ∙ ap (λ (p : Played). p.end) split)

  pub leads_moving : (whole left : Noted) (done : List Note) → Leads whole done left → Moves W whole → Moves W left
  leads_moving whole left done lead m = subst IsSomewhere lead.1 m

  pub leads_plays : (whole left : Noted) (done old mid new : List Note) (r : Result Given Halted) → Leads whole done left → mid ≡ old ++ done → Plays r mid new (played W left) → Plays r old new (played W whole)
  leads_plays whole left done old mid new r lead e q = by r q
    where
      longer : new ≡ mid ++ (played W left).notes → new ≡ old ++ (played W whole).notes
      longer n = n ∙ ap (λ ns. ns ++ (played W left).notes) e ∙ append_assoc old done (played W left).notes ∙ ap (λ ns. old ++ ns) (sym lead.0)

      by : (s : Result Given Halted) → Plays s mid new (played W left) → Plays s old new (played W whole)
      by (Ok w) x = (lead.1 ∙ x.0, longer x.1)
      by (Err (halted.Fault f)) x = (lead.1 ∙ x.0, longer x.1)
      by (Err halted.Unanswered) x = (lead.1 ∙ x.0, longer x.1)
      by (Err halted.Memory) x = tt

  pub leads_end : (whole d : Noted) (f : Value → Noted) (h : Halted) (done old mid new : List Note) → Leads whole done (behind d f) → mid ≡ old ++ done → Plays (Err h) mid new (played W d) → Plays (Err h) old new (played W whole)
  leads_end whole d f h done old mid new lead e q = leads_plays whole (behind d f) done old mid new (Err h) lead e (plays_end d f h mid new q)
