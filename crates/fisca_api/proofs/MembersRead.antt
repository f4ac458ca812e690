-- The members of situations that were read, and of those at the positions of run files, are those of an input.
use Rattle.std.proofs.Common.{◌≡◌, ℕ, List, refl, ap, sym, subst, ◌∙◌, Option}
use Rattle.std.specs.Prelude.{Result, Ok, Err, map}
use Rattle.fisca_groups.specs.declared.entity_members.EntityMembers.{EntityMembers}
use Rattle.fisca_inputs.specs.Inputs.{inputs_of}
use Rattle.fisca_inputs.specs.Rules.{rule_of}
use Rattle.fisca_inputs.specs.declared.given.Given.{Given}
use Rattle.fisca_groups.specs.Lookup.{counts_of}
use Rattle.fisca_members.specs.Sections.{Input}
use Rattle.fisca_members.specs.Steps.Members.{members_in, members_of}
use Rattle.fisca_members.specs.Steps.Sections.{input_of, titles_of}
use Rattle.fisca_members.specs.declared.fault.MembersFault.{MembersFault}
use Rattle.fisca_num.specs.Results.{and_then}
use Rattle.fisca_api.specs.Members.{AreMembers}
use Rattle.fisca_run.proofs.Files.{read_from}
use Rattle.fisca_run_file.specs.Positions.{situation_with}
use Rattle.fisca_run_file.specs.RunFiles.{RunFile, run_file_of}
use Rattle.fisca_run_file.specs.Steps.Positions.{inputs_with}
use Rattle.fisca_situations.specs.Situations.{Situation}
use Rattle.fisca_situations.specs.Steps.Reading.{inputs_given}
use Rattle.fisca_situations.specs.Steps.Situations.{reading_in, reading_of, situation_by, situation_of, told}
use Rattle.fisca_situations.specs.declared.reading.Reading.{Reading}
use Rattle.fisca_symbols.specs.Known.{tables as known}
use Rattle.fisca_symbols.specs.declared.tables.Tables.{Tables}
use Rattle.fisca_time.specs.Period.{Span}
use Rattle.fisca_yaml.specs.Node.{Node}

then_ok : {X Y E : Type 0} (r : Result X E) (f : X → Result Y E) (y : Y) → and_then r f ≡ Ok y → (x : X) × (r ≡ Ok x) × (f x ≡ Ok y)
then_ok (Ok x) f y h = (x, refl, h)
then_ok (Err e) f y h = cc

ok_same : {X E : Type 0} (x y : X) → ◌≡◌ {A = Result X E} (Ok x) (Ok y) → x ≡ y
ok_same x y e = cc

told_ok : {X : Type 0} (r : Result X MembersFault) (x : X) → told r ≡ Ok x → r ≡ Ok x
told_ok (Ok y) x h = let same : y ≡ x = cc in ap (λ z. Ok z) same
told_ok (Err f) x h = cc

joined : (c : Tables) (line : ℕ) (n : Node) (i : Input) (ms : List EntityMembers) → input_of (titles_of (known c).entities) line n ≡ Ok i → members_in (known c).entities line i ≡ Ok ms
    → members_of (known c).entities line n ≡ Ok ms
unfolding members_of
joined c line n i ms is h = ap (λ r. and_then r (members_in (known c).entities line)) is ∙ h

pub read_members : (c : Tables) (default : Option Span) (line : ℕ) (n : Node) (r : Reading) → reading_of c default line n ≡ Ok r → AreMembers c r.members
unfolding reading_of reading_in
read_members c default line n r h =
    let input = then_ok (told (input_of (titles_of (known c).entities) line n)) (reading_in c default line) r h in
    let members = then_ok (told (members_in (known c).entities line input.0)) (λ ms. and_then (inputs_given c default input.0) (λ gs. Ok (record { members = ms; given = gs }))) r input.2 in
    let given = then_ok (inputs_given c default input.0) (λ gs. Ok (record { members = members.0; given = gs })) r members.2 in
    let same : members.0 ≡ r.members = ap (λ (x : Reading). x.members) (ok_same (record { members = members.0; given = given.0 }) r given.2) in
    let made = joined c line n input.0 members.0 (told_ok (input_of (titles_of (known c).entities) line n) input.0 input.1) (told_ok (members_in (known c).entities line input.0) members.0 members.1) in
    subst (AreMembers c) same (line, n, made)

pub situation_members : (c : Tables) (default : Option Span) (line : ℕ) (n : Node) (s : Situation) → situation_of c default line n ≡ Ok s → AreMembers c s.members
situation_members c default line n s h =
    let read = then_ok (reading_of c default line n) (situation_by c) s h in
    let shared = then_ok (inputs_of (map rule_of c.variables) (counts_of read.0.members) read.0.given) (λ es. Ok (record { members = read.0.members; inputs = es })) s read.2 in
    subst (AreMembers c) (ap (λ (x : Situation). x.members) (ok_same (record { members = read.0.members; inputs = shared.0 }) s shared.2)) (read_members c default line n read.0 read.1)

pub position_members : (c : Tables) (n : Node) (f : RunFile) → run_file_of c n ≡ Ok f → (moved : List Given) (s : Situation) → situation_with c f moved ≡ Ok s → AreMembers c s.members
position_members c n f is moved s h =
    let read = read_from c n f is in
    let inputs = then_ok (inputs_with c f moved) (λ es. Ok (record { members = f.members; inputs = es })) s h in
    let same = ap (λ (x : Situation). x.members) (ok_same (record { members = f.members; inputs = inputs.0 }) s inputs.2) in
    subst (AreMembers c) same (subst (AreMembers c) (sym read.members) (read_members c _ _ _ read.reading read.read))
