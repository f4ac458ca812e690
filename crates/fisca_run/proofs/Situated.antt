-- Inputs that were shared with those of axes when a file was read are shared at each position.
use Rattle.std.proofs.Common.{◌≡◌, ℕ, List, [], ◌∷◌, map, false, true, ap, sym, ◌∙◌}
use Rattle.std.specs.Prelude.{Ok}
use Rattle.fisca_inputs.specs.Entries.{Entries, same_key}
use Rattle.fisca_inputs.specs.Inputs.{inputs_of, key_given}
use Rattle.fisca_inputs.specs.Rules.{Rule}
use Rattle.fisca_inputs.specs.declared.given.Given.{Given}
use Rattle.fisca_slots.proofs.Both.{Moving, here}
use Rattle.fisca_slots.proofs.Parts.{IsSound, all_disjoint, given_sound}
use Rattle.fisca_slots.proofs.Placed.{AllOf, Apart, Distinct, NoneOverlaps, all_here, all_read, here_unmoved, place_all, read_unmoved, turned, unmoved, with_axes_apart}
use Rattle.fisca_slots.proofs.Shared.{Pairwise, given_of, inputs_both, order_moving, sound_ordered}
use Rattle.fisca_situations.specs.AllAxes.{put_all_in}
use Rattle.fisca_time.specs.Period.{is_period}

-- the inputs of a file: for periods, and no two of one key
abbrev pub AreGiven : List Given → Type 0
AreGiven = Pairwise (λ g. is_period g.period ≡ true) (λ g h. same_key (key_given g) (key_given h) ≡ false)

module _ (rules : List Rule) where
  given_distinct : (gs : List Given) → AreGiven gs → Distinct (IsSound rules) gs
  given_distinct [] all = tt
  given_distinct (g ∷ gs) all = (given_sound rules g all.0, (all.1.0, given_distinct gs all.1.1))

  pub inputs_there : (counts : List ℕ) (given : List Given) (zs : List Moving) (es : Entries) → AreGiven given → NoneOverlaps given [] (map given_of zs)
      → AllOf (IsSound rules) zs
      → inputs_of rules counts (put_all_in given (map given_of zs)) ≡ Ok es → (fs : Entries) × (inputs_of rules counts (put_all_in given (map here zs)) ≡ Ok fs)
  inputs_there counts given zs es are none all h =
      let ts = place_all (unmoved given) zs in
      let read : put_all_in given (map given_of zs) ≡ map given_of ts =
      ap (λ gs. put_all_in gs (map given_of zs)) (sym (read_unmoved given)) ∙ sym (all_read (unmoved given) zs) in
      let at : map here ts ≡ put_all_in given (map here zs) = all_here (unmoved given) zs ∙ ap (λ gs. put_all_in gs (map here zs)) (here_unmoved given) in
      let apart = with_axes_apart (IsSound rules) given zs (given_distinct given are) none all in
      let both = inputs_both rules counts ts (all_disjoint rules (order_moving rules [] ts) (sound_ordered rules (IsSound rules) Apart turned ts apart)) es
      (ap (inputs_of rules counts) (sym read) ∙ h) in
      (both.after, ap (inputs_of rules counts) (sym at) ∙ both.is)
