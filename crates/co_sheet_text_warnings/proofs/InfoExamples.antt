-- What FileInfo and DeviceInfo say, on both sides of each edge.
use Rattle.std.proofs.Common.{◌≡◌, [], ◌∷◌, true, false, refl, codes, map}
use Rattle.std.specs.Prelude.{replicate}
use Rattle.co_sheet_text_warnings.specs.KnownKeys.{key_text}
use Rattle.co_sheet_text.specs.Numerals.{unsigned_number}
use Rattle.co_sheet_text_warnings.specs.Infos.{device_keys, file_keys, is_date, is_read_as, is_time}

-- ---- FileInfo, DeviceInfo

required_of_file_info : map key_text file_keys
    ≡ codes "FileName" ∷ codes "FileVersion" ∷ codes "FileRevision" ∷ codes "Description" ∷ codes "CreationTime" ∷ codes "CreationDate" ∷ codes "CreatedBy" ∷ codes "ModificationTime" ∷ codes "ModificationDate" ∷ codes "ModifiedBy" ∷ []
required_of_file_info = refl

required_of_device_info : map key_text device_keys
    ≡ codes "VendorName" ∷ codes "VendorNumber" ∷ codes "ProductName" ∷ codes "ProductNumber" ∷ codes "RevisionNumber" ∷ codes "OrderCode" ∷ codes "BaudRate_10" ∷ codes "BaudRate_20" ∷ codes "BaudRate_50" ∷ codes "BaudRate_125" ∷ codes "BaudRate_250" ∷ codes "BaudRate_500" ∷ codes "BaudRate_800" ∷ codes "BaudRate_1000" ∷ codes "SimpleBootUpMaster" ∷ codes "SimpleBootUpSlave" ∷ codes "Granularity" ∷ codes "DynamicChannelsSupported" ∷ codes "GroupMessaging" ∷ codes "NrOfRXPDO" ∷ codes "NrOfTXPDO" ∷ codes "LSS_Supported" ∷ []
required_of_device_info = refl

-- ---- IdentityNumber

-- of the vendor-ID 0xF1A2: a leading zero is octal or decimal, by the tool that wrote it
read_as : map (λ text. is_read_as (61858, 61858) text (unsigned_number text)) (codes "0170642" ∷ codes "0000061858" ∷ codes "00170642" ∷ codes "61858" ∷ codes "0xF1A2" ∷ codes "0170643" ∷ codes "0061857" ∷ codes "170642" ∷ codes "0F1A2" ∷ codes "-061858" ∷ codes "" ∷ [])
    ≡ true ∷ true ∷ true ∷ true ∷ true ∷ false ∷ false ∷ false ∷ false ∷ false ∷ false ∷ []
read_as = refl

-- no octal digits
only_decimal : map (λ n. is_read_as (n, n) (codes "0190") (unsigned_number (codes "0190"))) (190 ∷ 136 ∷ 0x190 ∷ []) ≡ true ∷ false ∷ false ∷ []
only_decimal = refl

-- both ends are included, of either reading
between : map (λ text. is_read_as (8, 10) text (unsigned_number text)) (codes "7" ∷ codes "8" ∷ codes "10" ∷ codes "11" ∷ codes "010" ∷ codes "012" ∷ codes "013" ∷ codes "07" ∷ []) ≡ false ∷ true ∷ true ∷ false ∷ true ∷ true ∷ false ∷ false ∷ []
between = refl

-- ---- DateFormat

dates : map is_date (codes "02-11-2020" ∷ codes "12-31-0000" ∷ codes "01-01-9999" ∷ codes "13-01-2020" ∷ codes "00-01-2020" ∷ codes "01-32-2020" ∷ codes "01-00-2020" ∷ codes "2-11-2020" ∷ codes "02-11-20" ∷ codes "02-11-20200" ∷ codes "02-11-2O20" ∷ codes "02-112020" ∷ codes "2019/3/7" ∷ codes "2020-02-11" ∷ [])
    ≡ true ∷ true ∷ true ∷ replicate 11 false
dates = refl

times : map is_time (codes "10:22AM" ∷ codes "12:59pm" ∷ codes "01:00AM" ∷ codes "00:00AM" ∷ codes "13:00PM" ∷ codes "1:00PM" ∷ codes "10:60AM" ∷ codes "10:22" ∷ codes "10:22 AM" ∷ codes "10:22XM" ∷ codes "10.22AM" ∷ [])
    ≡ true ∷ true ∷ true ∷ replicate 8 false
times = refl
