-- A line as the reader holds it, by what its reference points to.
use Rattle.smtp.specs.declared.reply_line.WireLine.{WireLine}
use Rattle.smtp.specs.Replies.{Line}

abbrev pub line_of : WireLine → Line
line_of l = record { code = l.code; separator = l.separator; text = l.text.now }
