-- The part has the capacity that it had, and its first table lies in the base field
use Rattle.std.proofs.Common.{ap, sym, subst, arith}
use Rattle.mle_table.specs.Shape.{AreBase}
use Rattle.mle_table.proofs.api.Written.{embedded_base}
use Rattle.table_parts.proofs.part.Part.write.Goals as goal

pub invariant_of-self : goal.invariant_of-self
invariant_of-self c =
    let kept = c.self.invariant in (
      omega (arith, kept.0, c.write_elements.ensures.capacity),
      omega (arith, kept.1, ap (λ column. column.capacity) c.write.ensures),
      omega (arith, kept.2, ap (λ column. column.capacity) c.write-2.ensures),
      (λ is_base. subst AreBase (sym c.write_elements.ensures.items) (embedded_base c.args.table.now)),
    )
