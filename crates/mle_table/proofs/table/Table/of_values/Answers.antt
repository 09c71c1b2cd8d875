-- A number between two neighbouring powers of two that is not the lower is none
use Rattle.std.proofs.Common.{◌≡◌, ◌<◌, ◌*◌, ◌^◌, sym, ◌∙◌, arith, mod-eq_of_lt}
use Rattle.mle_table.proofs.Powers.{one_power}
use Rattle.mle_table.proofs.table.Table.of_values.Goals as goal

pub returns-else-len-k-clause-accepted : goal.returns-else-len-k-clause-accepted
returns-else-len-k-clause-accepted c = (
  (λ z. absurd (cc)),
  (λ (m, e).
      let p : c.len-2.result ≡ 2 ^ c.ilog2-k.result = one_power c.len-2.result c.ilog2-k.result m c.ilog2-k.ensures.power_le c.ilog2-k.ensures.next_power_gt (c.len-2.ensures ∙ e) in
      let fits : 1 * 2 ^ c.ilog2-k.result < 18446744073709551616 = omega (arith, p, c.len-2.type_inv) in
      let q : 2 ^ c.ilog2-k.result ≡ 1 * 2 ^ c.ilog2-k.result = omega arith in
      absurd (c.if-len-k.false (c.len-3.ensures ∙ sym c.len-2.ensures ∙ p ∙ q ∙ sym (mod-eq_of_lt fits)))),
)
