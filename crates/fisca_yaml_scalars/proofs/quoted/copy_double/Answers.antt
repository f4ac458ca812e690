use Rattle.std.proofs.Common.{◌≡◌, ◌+◌, ◌≤◌, ⊎_elim, List, ℕ, length, get_or, take, drop, string_bytes, encode_utf8, sym, ap, subst, ◌∙◌, arith, rules, length-drop}
use Rattle.fisca_yaml_scalars.specs.Scalars.{double, none, begun, prepend}
use Rattle.fisca_yaml_scalars.proofs.Quotes.{escape_step}
use Rattle.fisca_yaml_scalars.proofs.quoted.copy_double.Goals as goal

pub pieces-preserved : goal.pieces-preserved
pieces-preserved c =
    let i = c.pieces.invariant in
    let bytes : List ℕ = c.as_bytes.result.now in
    let same = c.as_bytes.ensures.value in
    let found = c.in-Some.ensures in
    let at = c.in-Some.at in
    let last = c.in-Some-escape.last in
    let behind : get_or bytes at 0 ≡ 92 = ⊎_elim (λ q. absurd (grind arith)) (λ q. q) found.1 in
    let rest : List ℕ = c.around.result.1.now in
    let past : List ℕ = c.around-in-Some.result.1.now in
    let code = encode_utf8 c.in-Some-escape.c in
    let escaped : double begun rest ≡ prepend code (double none (drop (last + 1) rest)) =
    subst (λ (t : List ℕ). double begun t ≡ prepend code (double none (drop (last + 1) t))) c.as_bytes-in-Some-2.ensures.value c.in-Some-escape.ensures.2 in
    let cut : rest ≡ drop (at + 1) bytes = c.around.ensures.back ∙ ap (drop (at + 1)) (sym same) in
    let shorter : length past ≤ length rest = omega (arith, ap length c.around-in-Some.ensures.back, length-drop (last + 1) rest) in
    let shorter_too : length rest ≤ length bytes = omega (arith, ap length cut, length-drop (at + 1) bytes) in (
      search rules,
      escape_step c.args.text.now (string_bytes c.pieces.copy) bytes c.around.result.0.now rest past (string_bytes c.push_str.new.self) (string_bytes c.push.new.self) code at last
          (i.1 ∙ ap (λ t. prepend (string_bytes c.pieces.copy) (double none t)) (sym same)) found.2 found.0 behind (c.around.ensures.front ∙ ap (take at) (sym same)) cut escaped c.around-in-Some.ensures.back
          c.in_ok-push_str.ensures.bytes c.in_ok-push.ensures.bytes,
      omega (arith, i.2, shorter, shorter_too, ap length same),
    )
