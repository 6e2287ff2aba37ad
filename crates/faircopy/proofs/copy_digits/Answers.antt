-- `copy_digits` meets its contract.
use native.Mathlib.Omega.{arith}
use Rattle.language.specs.Bytes.{tick_byte}
use Rattle.faircopy.proofs.StepsParts.{fits-digits, after-slash, after-sign, digits-moved}
use Rattle.faircopy.proofs.copy_digits.Goals as goal

pub write_sign-after_sign-requires : goal.write_sign-after_sign-requires
write_sign-after_sign-requires c =
    let f = after-slash c.args.minus c.args.text.now c.args.out.now c.args.at c.write_bytes-after_slash.ensures c.requires in
    omega (arith, f)

pub copy_through-requires : goal.copy_through-requires
copy_through-requires c =
    let l = c.args.text.now in
    fits-digits tick_byte l _ _ _ c.past_zeros-digits.ensures
    (after-sign c.args.minus l c.args.out.now c.args.at c.write_bytes-after_slash.ensures c.requires c.past_zeros-digits.ensures c.write_sign-after_sign.ensures)

pub returns : goal.returns
returns c =
    let l = c.args.text.now in
    digits-moved c.args.minus l c.args.out.now c.args.at c.write_bytes-after_slash.ensures c.requires c.past_zeros-digits.ensures c.write_sign-after_sign.ensures c.copy_through.ensures
