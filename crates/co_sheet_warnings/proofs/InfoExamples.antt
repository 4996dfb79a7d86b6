-- What FileInfo and DeviceInfo say, on both sides of each edge.
use Rattle.std.proofs.Common.{◌≡◌, ℕ, List, [], ◌∷◌, refl, codes, map, take, drop}
use Rattle.std.specs.Prelude.{◌++◌}
use Rattle.co_sheet_text_warnings.specs.declared.warning.WarningKind.TheVariants.{FileInfoKeys, DeviceInfoKeys, PdoCount, IdentityNumber, DateFormat}
use Rattle.co_sheet_warnings.specs.Warnings.{few_places, places_in, places_of}
use Rattle.co_sheet_text_warnings.specs.InText.{place_in_text}
use Rattle.co_sheet_warnings.proofs.ExampleTexts.{places}

-- ---- FileInfo, DeviceInfo

abbrev file_info : List (List ℕ)
file_info =
    codes "FileName=a" ∷ codes "FileVersion=1" ∷ codes "FileRevision=1" ∷ codes "Description=a" ∷ codes "CreationTime=10:22AM" ∷ codes "CreationDate=02-11-2020" ∷ codes "CreatedBy=a" ∷ codes "ModificationTime=03:07PM" ∷ codes "ModificationDate=09-30-2021" ∷ codes "ModifiedBy=a" ∷ []

abbrev device_info : List (List ℕ)
device_info =
    codes "VendorName=a" ∷ codes "VendorNumber=1" ∷ codes "ProductName=a" ∷ codes "ProductNumber=1" ∷ codes "RevisionNumber=1" ∷ codes "OrderCode=a" ∷ codes "BaudRate_10=1" ∷ codes "BaudRate_20=1" ∷ codes "BaudRate_50=1" ∷ codes "BaudRate_125=1" ∷ codes "BaudRate_250=1" ∷ codes "BaudRate_500=1" ∷ codes "BaudRate_800=1" ∷ codes "BaudRate_1000=1" ∷ codes "SimpleBootUpMaster=0" ∷ codes "SimpleBootUpSlave=1" ∷ codes "Granularity=8" ∷ codes "DynamicChannelsSupported=0" ∷ codes "GroupMessaging=0" ∷ codes "NrOfRXPDO=0" ∷ codes "NrOfTXPDO=0" ∷ codes "LSS_Supported=0" ∷ []

whole_file_info : places (FileInfoKeys []) (codes "[fileinfo]" ∷ file_info) ≡ []
unfolding places_of few_places place_in_text places_in
whole_file_info = refl

first_missing : places (FileInfoKeys []) (codes "[Comments]" ∷ codes "[FileInfo]" ∷ drop 1 file_info) ≡ 2 ∷ []
unfolding places_of few_places place_in_text places_in
first_missing = refl

last_missing : places (FileInfoKeys []) (codes "[FileInfo]" ∷ take 9 file_info) ≡ 1 ∷ []
unfolding places_of few_places place_in_text places_in
last_missing = refl

whole_device_info : places (DeviceInfoKeys []) (codes "[DeviceInfo]" ∷ device_info) ≡ []
unfolding places_of few_places place_in_text places_in
whole_device_info = refl

device_key_missing : places (DeviceInfoKeys []) (codes "[DeviceInfo]" ∷ take 21 device_info) ≡ 1 ∷ []
unfolding places_of few_places place_in_text places_in
device_key_missing = refl

-- in another section they are none of its keys, and without a section no line is to blame
elsewhere : places (FileInfoKeys []) (codes "[DeviceInfo]" ∷ file_info) ≡ 0 ∷ []
unfolding places_of few_places place_in_text places_in
elsewhere = refl

-- ---- PdoCount

abbrev pdo_numbers : List ℕ → List (List ℕ) → List (List ℕ)
pdo_numbers compact objects =
    codes "[DeviceInfo]" ∷ codes "NrOfRXPDO=1" ∷ codes "NrOfTXPDO=2" ∷ compact ∷ objects

-- a list of four objects
abbrev four_listed : List ℕ → List ℕ → List ℕ → List ℕ → List (List ℕ)
four_listed one two three four =
    codes "[OptionalObjects]" ∷ codes "SupportedObjects=4" ∷ (codes "1=0x" ++ one) ∷ (codes "2=0x" ++ two) ∷ (codes "3=0x" ++ three) ∷ (codes "4=0x" ++ four) ∷ []

abbrev all_listed : List (List ℕ)
all_listed = four_listed (codes "1400") (codes "15FF") (codes "1800") (codes "1801")

counted_pdos : places PdoCount (pdo_numbers [] (codes "[13FF]" ∷ codes "[1400]" ∷ codes "[1400sub1]" ∷ codes "[1600]" ∷ codes "[17FF]" ∷ codes "[1800]" ∷ codes "[19FF]" ∷ codes "[1A00]" ∷ four_listed (codes "13FF") (codes "1400") (codes "1800") (codes "19FF"))) ≡ []
unfolding places_of few_places place_in_text places_in
counted_pdos = refl

-- above the number of all, and below that of those that the lists name
other_counts : places PdoCount (pdo_numbers [] (codes "[1400]" ∷ codes "[15FF]" ∷ codes "[1800]" ∷ all_listed)) ≡ 2 ∷ 3 ∷ []
unfolding places_of few_places place_in_text places_in
other_counts = refl

-- of two RPDOs one is listed, and of three TPDOs two are: either may be counted, and anything between
listed_or_all : map (λ lines. places PdoCount (lines ++ codes "[1400]" ∷ codes "[1401]" ∷ codes "[1800]" ∷ codes "[1801]" ∷ codes "[1802]" ∷ all_listed))
    ((codes "[DeviceInfo]" ∷ codes "NrOfRXPDO=0" ∷ codes "NrOfTXPDO=1" ∷ []) ∷ (codes "[DeviceInfo]" ∷ codes "NrOfRXPDO=1" ∷ codes "NrOfTXPDO=2" ∷ []) ∷ (codes "[DeviceInfo]" ∷ codes "NrOfRXPDO=2" ∷ codes "NrOfTXPDO=3" ∷ []) ∷ (codes "[DeviceInfo]" ∷ codes "NrOfRXPDO=3" ∷ codes "NrOfTXPDO=4" ∷ []) ∷ [])
    ≡ (2 ∷ 3 ∷ []) ∷ [] ∷ [] ∷ (2 ∷ 3 ∷ []) ∷ []
unfolding places_of few_places place_in_text places_in
listed_or_all = refl

no_pdos : places PdoCount (pdo_numbers (codes "CompactPDO=0") (codes "[1800]" ∷ codes "[1801]" ∷ [])) ≡ 2 ∷ []
unfolding places_of few_places place_in_text places_in
no_pdos = refl

compact_pdos : places PdoCount (pdo_numbers (codes "CompactPDO=1") (codes "[1800]" ∷ [])) ≡ []
unfolding places_of few_places place_in_text places_in
compact_pdos = refl

-- a number that can't be read isn't theirs
no_count_of_pdos : places PdoCount (codes "[DeviceInfo]" ∷ codes "NrOfRXPDO=one" ∷ codes "[1400]" ∷ []) ≡ 2 ∷ []
unfolding places_of few_places place_in_text places_in
no_count_of_pdos = refl

-- ---- IdentityNumber

-- of each number of the identity object
abbrev other_numbers_of : List (List ℕ) → List (List ℕ)
other_numbers_of lines = places (IdentityNumber 1) lines ∷ places (IdentityNumber 2) lines ∷ places (IdentityNumber 3) lines ∷ []

abbrev identity : List ℕ → List ℕ → List ℕ → List (List ℕ)
identity vendor product revision =
    codes "[DeviceInfo]" ∷ vendor ∷ product ∷ revision ∷ codes "[1018sub1]" ∷ codes "DefaultValue=0x1" ∷ codes "[1018sub2]" ∷ codes "DefaultValue=2" ∷ codes "[1018sub3]" ∷ codes "DefaultValue=3" ∷ codes "[1018sub4]" ∷ codes "DefaultValue=4" ∷ []

same_numbers : other_numbers_of (identity (codes "VendorNumber=1") (codes "ProductNumber=0x2") (codes "RevisionNumber=3")) ≡ [] ∷ [] ∷ [] ∷ []
unfolding places_of few_places place_in_text places_in
same_numbers = refl

other_numbers : other_numbers_of (identity (codes "VendorNumber=2") (codes "ProductNumber=3") (codes "RevisionNumber=4")) ≡ (2 ∷ []) ∷ (3 ∷ []) ∷ (4 ∷ []) ∷ []
unfolding places_of few_places place_in_text places_in
other_numbers = refl

no_numbers : other_numbers_of (identity (codes "VendorNumber=one") (codes "ProductNumber=") (codes "VendorName=3")) ≡ (2 ∷ []) ∷ [] ∷ [] ∷ []
unfolding places_of few_places place_in_text places_in
no_numbers = refl

abbrev vendor_of : List ℕ → List (List ℕ)
vendor_of number = codes "[DeviceInfo]" ∷ codes "VendorNumber=010" ∷ codes "[1018sub1]" ∷ (codes "DefaultValue=" ++ number) ∷ []

leading_zero : map (λ number. places (IdentityNumber 1) (vendor_of number)) (codes "8" ∷ codes "10" ∷ codes "9" ∷ codes "16" ∷ []) ≡ [] ∷ [] ∷ (2 ∷ []) ∷ (2 ∷ []) ∷ []
unfolding places_of few_places place_in_text places_in
leading_zero = refl

-- so with a number of PDOs
pdos_with_zero : places PdoCount (codes "[DeviceInfo]" ∷ codes "NrOfRXPDO=08" ∷ codes "NrOfTXPDO=010" ∷ codes "[1800]" ∷ codes "[1801]" ∷ codes "[1802]" ∷ codes "[1803]" ∷ codes "[1804]" ∷ codes "[1805]" ∷ codes "[1806]" ∷ codes "[1807]" ∷ []) ≡ 2 ∷ []
unfolding places_of few_places place_in_text places_in
pdos_with_zero = refl

no_identity : places (IdentityNumber 1) (codes "[DeviceInfo]" ∷ codes "VendorNumber=2" ∷ codes "[1018sub1]" ∷ codes "DefaultValue=one" ∷ codes "[1018]" ∷ codes "DefaultValue=1" ∷ []) ≡ []
unfolding places_of few_places place_in_text places_in
no_identity = refl

-- ---- DateFormat

dates_of_files : places DateFormat (codes "[FileInfo]" ∷ codes "CreationDate=2019/3/7" ∷ codes "CreationTime=10:22" ∷ codes "ModificationTime=10:22" ∷ codes "ModificationDate=2019/3/7" ∷ codes "[Comments]" ∷ codes "CreationDate=x" ∷ []) ≡ 3 ∷ 2 ∷ 4 ∷ 5 ∷ []
unfolding places_of few_places place_in_text places_in
dates_of_files = refl

good_dates : places DateFormat (codes "[FileInfo]" ∷ file_info) ≡ []
unfolding places_of few_places place_in_text places_in
good_dates = refl
