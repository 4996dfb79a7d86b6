-- A fault of the text of an option is one of the words.
use Rattle.conode_explain_filter.specs.declared.option.FilterOption.{FilterOption}
use Rattle.conode_explain_filter.specs.declared.reading.FilterFault.{FilterFault}
use Rattle.conode_explain_filter.specs.declared.reading.FilterFault.TheVariants.{Word, Memory}
use Rattle.conode_explain_filter.specs.declared.reading.FilterWords.{FilterWords}
use Rattle.conode_explain_filter.specs.Filters.{IsFault, IsFaultOf, text_for}

pub fault_of : (words : FilterWords) (option : FilterOption) (fault : FilterFault) → IsFaultOf option (text_for option words) fault → IsFault words fault
fault_of words option Memory h = tt
fault_of words option (Word of word) h = rw h.0 h.1
