-- Which byte comes after a decimal.
use Rattle.std.specs.Prelude.{ℕ, ◌==◌, if◌then◌else◌}
use Rattle.text_parts.specs.declared.rule.Rule.{Rule}

abbrev pub after : Rule → ℕ → ℕ
after r n = if n == 0 then r.after_zero else r.after_other
