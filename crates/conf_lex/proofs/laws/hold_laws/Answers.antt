use Rattle.conf_lex.proofs.CleanLemmas.{clean_stays_clean, comments_have_no_effect}
use Rattle.conf_lex.proofs.GoodWords.{statements_have_good_words}
use Rattle.conf_lex.proofs.PermLemmas.{perm_texts_are_read}
use Rattle.conf_lex.proofs.PlaceLaws.{places_are_offsets}
use Rattle.conf_lex.proofs.SpellingLemmas.{spellings_are_read}
use Rattle.conf_lex.proofs.laws.hold_laws.Goals as goal

pub returns-clause-clean : goal.returns-clause-clean
returns-clause-clean c = clean_stays_clean

pub returns-clause-comments : goal.returns-clause-comments
returns-clause-comments c = comments_have_no_effect

pub returns-clause-spellings : goal.returns-clause-spellings
returns-clause-spellings c = spellings_are_read

pub returns-clause-permissions : goal.returns-clause-permissions
returns-clause-permissions c = perm_texts_are_read

pub returns-clause-places : goal.returns-clause-places
returns-clause-places c = places_are_offsets

pub returns-clause-words : goal.returns-clause-words
returns-clause-words c = statements_have_good_words
