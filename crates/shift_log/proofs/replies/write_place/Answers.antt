use Rattle.decimals.proofs.Texts.{grew_as}
use Rattle.shift_log.proofs.ReplyTexts.{outside-text, inside-text, border-text}
use Rattle.shift_log.proofs.replies.write_place.Goals as goal

pub returns-in-Outside-clause-grew : goal.returns-in-Outside-clause-grew
returns-in-Outside-clause-grew c = rw c.in-Outside.is (grew_as outside-text c.push_word.ensures)

pub returns-in-Inside-clause-grew : goal.returns-in-Inside-clause-grew
returns-in-Inside-clause-grew c = rw c.in-Inside.is (grew_as inside-text c.push_word-in-Inside.ensures)

pub returns-in-Border-clause-grew : goal.returns-in-Border-clause-grew
returns-in-Border-clause-grew c = rw c.in-Border.is (grew_as border-text c.push_word-in-Border.ensures)
