-- The number of each refusal, case for case.
use Rattle.std.specs.Prelude.{ℕ}
use Rattle.smtp.specs.declared.refusal.Refusal.{Refusal}
use Rattle.smtp.specs.declared.refusal.Refusal.TheVariants.{MailLineTooLong, MailLineForm, UnknownOption, RepeatedOption, RequireTlsInClear, RepeatedTlsRequired, BadHost, BadAddress, BadContent, ShortBuffer, WrongStanding, NoRoom, BadPolicy, BadSheet, BadHouseHost}

abbrev pub number_of : Refusal → ℕ
number_of MailLineTooLong = 1
number_of MailLineForm = 2
number_of UnknownOption = 3
number_of RepeatedOption = 4
number_of RequireTlsInClear = 5
number_of RepeatedTlsRequired = 6
number_of BadHost = 7
number_of BadAddress = 8
number_of BadContent = 9
number_of ShortBuffer = 10
number_of WrongStanding = 11
number_of NoRoom = 12
number_of BadPolicy = 13
number_of BadSheet = 14
number_of BadHouseHost = 15
