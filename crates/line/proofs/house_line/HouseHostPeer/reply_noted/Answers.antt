use Rattle.line.proofs.house_line.HouseHostPeer.reply_noted.Goals as goal

pub lay_reply-requires : goal.lay_reply-requires
lay_reply-requires c = c.answer_by.ensures.short c.in_ok-answer.answer c.in_ok-answer.was
