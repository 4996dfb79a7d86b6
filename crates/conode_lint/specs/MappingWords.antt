-- The words about a fault of a mapping, for people.
use Rattle.std.specs.Prelude.{List, ℕ, codes}
use Rattle.co_dict_faults.specs.declared.mapping_fault.MappingFault.{MappingFault}
use Rattle.co_dict_faults.specs.declared.mapping_fault.MappingReason.{MappingReason}
use Rattle.co_dict_faults.specs.declared.mapping_fault.MappingReason.TheVariants.{CountsMore, TooLong, Multiplexed, Missing, Zero, NoEntry, NotMappable, NoNumber, BelowProfile, WrongAccess, OneBit, WrongLength}
use Rattle.co_value.specs.declared.key.Key.{Key}
use Rattle.conode_lint_text.specs.declared.finding.About.{About}
use Rattle.conode_lint_text.specs.declared.finding.About.TheVariants.{Entry, Bits}

-- the entry that it is about; for a mapping that is too long, its bits too
abbrev pub about_reason : Key → MappingReason → About
about_reason key (TooLong bits) = Bits key.index bits
about_reason key other = Entry key.index key.sub

abbrev pub mapping_about : MappingFault → About
mapping_about fault = about_reason fault.key fault.reason

-- what is wrong
abbrev pub mapping_meaning : MappingReason → List ℕ
mapping_meaning CountsMore = codes "the count is greater than the number of mapping words"
mapping_meaning (TooLong bits) = codes "a PDO has at most 64"
mapping_meaning Missing = codes "the mapping counts this word, and it is missing"
mapping_meaning Zero = codes "the mapping counts this word, and it is 0"
mapping_meaning NoEntry = codes "it maps an entry that the sheet doesn't have"
mapping_meaning NotMappable = codes "it maps an entry that may not be mapped"
mapping_meaning NoNumber = codes "it maps a string or a domain"
mapping_meaning BelowProfile = codes "an RPDO maps no entry below 2000h"
mapping_meaning WrongAccess = codes "it maps an entry with an access that doesn't fit"
mapping_meaning OneBit = codes "it maps 1 bit of an entry of 8 bits"
mapping_meaning WrongLength = codes "its length isn't that of the entry"
mapping_meaning Multiplexed = codes "the PDO is multiplexed: FEh and FFh count no words"

-- how to fix it
abbrev pub mapping_fix : MappingReason → List ℕ
mapping_fix CountsMore =
    codes "lower the count, or describe the sub-indices that are missing"
mapping_fix (TooLong bits) = codes "lower the count, or map some of them in another PDO"
mapping_fix Missing = codes "describe this sub-index"
mapping_fix Zero = codes "give an entry to map, or lower the count"
mapping_fix NoEntry =
    codes
    "list and describe that entry, or map another; an RPDO may map dummies 0002h to 0007h, sub-index 0, that DummyUsage allows, as Dummy0005=1; other dummies are legal, but conode's node takes whole bytes of these alone"
mapping_fix NotMappable =
    codes
    "set PDOMapping=1 for that entry, if its access fits: an RPDO maps rw, rww and wo, from 2000h on, a TPDO ro, rw, rwr and const; or map another"
mapping_fix NoNumber =
    codes "a string of at most 8 bytes is legal, but conode's node maps numbers alone: map an entry of a numeric type"
mapping_fix BelowProfile =
    codes "map an entry from 2000h on; CiA 301 permits others too, but conode's node doesn't"
mapping_fix WrongAccess = codes "an RPDO maps rw, rww and wo, a TPDO ro, rw, rwr and const"
mapping_fix OneBit =
    codes
    "give the length as 8 bits (08h); of a BOOLEAN 1 bit is legal, but conode's node maps whole bytes; conode adapt --force empties the mapping"
mapping_fix WrongLength = codes "give 8 bits for each byte of the type of that entry"
mapping_fix Multiplexed =
    codes
    "this is legal, but conode's node sends and receives no multiplexed PDO: give a count of words to build"

-- the subject of the standard
abbrev pub mapping_subject : List ℕ
mapping_subject = codes "CiA 301, PDO mapping parameter"

-- the row of a reason in the tables of words
abbrev pub reason_row : MappingReason → ℕ
reason_row CountsMore = 0
reason_row (TooLong bits) = 1
reason_row Missing = 2
reason_row Zero = 3
reason_row NoEntry = 4
reason_row NotMappable = 5
reason_row NoNumber = 6
reason_row BelowProfile = 7
reason_row WrongAccess = 8
reason_row OneBit = 9
reason_row WrongLength = 10
reason_row Multiplexed = 11
