-- What reading a reply gives: its bytes and its code, or none where it is malformed.
use Rattle.std.specs.Prelude.{ℕ, cond, List, Some, None, Option}
use Rattle.smtp.specs.declared.reply.Reply.{Reply}
use Rattle.smtp.specs.Replies.{well_formed, reply_code}

-- what a reply holds
abbrev pub held : Reply → List ℕ × ℕ
held reply = (reply.bytes.now, reply.code)

abbrev pub read_reply : List ℕ → Option (List ℕ × ℕ)
read_reply s = cond (well_formed s) (Some (s, reply_code s)) None
