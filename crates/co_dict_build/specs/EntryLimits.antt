-- The row of an entry in the dictionary (CiA 301, 7.4.7; CiA 306, LowLimit and HighLimit).
use Rattle.co_sheet.specs.Content.{Row as SheetRow}
use Rattle.co_sheet.specs.SheetLaws.{low_of, high_of}
use Rattle.co_dict.specs.declared.row.Row.{Row}
use Rattle.co_dict_build.specs.Capacities.{Limits, capacity_of}

-- what the dictionary knows of an entry of the sheet; where the sheet states no limit it is the end
-- of the type
abbrev pub row_in : Limits → SheetRow → Row
row_in limits row = record {
  data_type = row.data_type;
  access = row.access;
  low = low_of row;
  high = high_of row;
  capacity = capacity_of limits row;
  mappable = row.mappable;
}
