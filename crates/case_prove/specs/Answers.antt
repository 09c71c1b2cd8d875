-- The reply of `prove` to a case, as a table: when each reply is the one.
use Rattle.std.specs.Prelude.{◌≡◌, ℕ, List, Bool, true, false}
use Rattle.proof_two.specs.declared.kind.ProofKind.{ProofKind}
use Rattle.proof_two.specs.declared.kind.ProofKind.TheVariants.{ByLines}
use Rattle.proof_two.specs.declared.kind.ProofVersion.TheVariants.{One}
use Rattle.arr_compile.specs.Programs.{IsRefusedAs}
use Rattle.arr_compile.specs.Circuits.{IsTooLarge}
use Rattle.layer_compile.specs.declared.refused.LayerRefused.TheVariants as layout
use Rattle.case_text.specs.Content.{Content}
use Rattle.case_text.specs.Replies.{reply_text}
use Rattle.case_text.specs.declared.reply.Reply.{Reply}
use Rattle.case_text.specs.declared.reply.Reply.TheVariants as replies
use Rattle.case_prove.specs.Circuits.{IsCircuitMiscounted}
use Rattle.case_prove.specs.Proved.{IsProved}

-- when a reply is what `prove` says of a case, with a proof of this kind
abbrev pub IsProveAnswer : ProofKind → Content → Reply → Type 0
IsProveAnswer kind c (replies.Program why at) = IsRefusedAs c.lang c.program at why
IsProveAnswer kind c (replies.Deep levels) = IsTooLarge c.lang c.program (layout.Deep levels)
IsProveAnswer kind c (replies.Wide height width) =
    IsTooLarge c.lang c.program (layout.Wide height width)
IsProveAnswer kind c (replies.InputCount have need) = IsCircuitMiscounted c have need
IsProveAnswer kind c (replies.Proved proved) = IsProved kind c proved
IsProveAnswer kind c reply = ⊥

-- the reply is a case with its proof
abbrev pub is_proved_case : Reply → Bool
is_proved_case (replies.Proved proved) = true
is_proved_case reply = false

-- The text is the reply of `prove` to the case, with a proof of version 1, and says whether the case was proved.
pub record IsAnswered (c : Content) (proved : Bool) (text : List ℕ) : Type 0 where
  pub reply : Reply
  pub is_answer : IsProveAnswer (ByLines One) c reply
  pub is_text : text ≡ reply_text reply
  pub says : proved ≡ is_proved_case reply

-- what contracts see of a case that was answered
pub record AnsweredView : Type 0 where
  pub case : Content
  pub proved : Bool
  pub text : List ℕ
