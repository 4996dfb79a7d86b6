-- A larger data sheet, with PDOs, computed from the definitions: 22 objects and 46 entries.
use Rattle.std.proofs.Common.{◌≡◌, ℕ, List, [], ◌++◌, refl, codes, Some, None}
use Rattle.std.specs.Prelude.{length, pos, true, false, slice_get}
use Rattle.co_value.specs.declared.data_type.DataType.TheVariants.{Unsigned16, Unsigned32}
use Rattle.co_profile.specs.declared.access.Access.TheVariants.{Rw}
use Rattle.co_sheet.specs.Limits.{absent, node_id}
use Rattle.co_sheet.specs.Notes.{notes_of}
use Rattle.co_sheet.specs.Accepted.{sections_in, first_fault}
use Rattle.co_sheet.specs.Content.{rows_of, objects_of}

abbrev large : List ℕ
large = codes "[MandatoryObjects]\nSupportedObjects=3\n1=0x1000\n2=0x1001\n3=0x1018\n[1000]\nDataType=7\nAccessType=ro\n"
    ++ codes "DefaultValue=0x191\n[1001]\nDataType=5\nAccessType=ro\n[1018]\nObjectType=9\n[1018sub0]\nDataType=5\n"
    ++ codes "AccessType=ro\nDefaultValue=1\n[1018sub1]\nDataType=7\nAccessType=ro\n[OptionalObjects]\nSupportedObjects=14\n"
    ++ codes "1=0x1003\n2=0x1005\n3=0x1014\n4=0x1015\n5=0x1016\n6=0x1017\n7=0x1029\n8=0x1201\n9=0x1400\n10=0x1600\n11=0x1800\n"
    ++ codes "12=0x1801\n13=0x1A00\n14=0x1A01\n[ManufacturerObjects]\nSupportedObjects=5\n1=0x2001\n2=0x2002\n3=0x2003\n"
    ++ codes "4=0x2004\n5=0x2100\n[1003]\nObjectType=8\n[1003sub0]\nDataType=5\nAccessType=rw\n[1003sub1]\nDataType=7\n"
    ++ codes "AccessType=ro\n[1003sub2]\nDataType=7\nAccessType=ro\n[1005]\nDataType=7\nAccessType=rw\nDefaultValue=0x80\n"
    ++ codes "[1014]\nDataType=7\nAccessType=rw\nDefaultValue=$NODEID+0x80\n[1015]\nDataType=6\nAccessType=rw\n[1016]\n"
    ++ codes "ObjectType=8\n[1016sub0]\nDataType=5\nAccessType=ro\nDefaultValue=2\n[1016sub1]\nDataType=7\nAccessType=rw\n"
    ++ codes "[1016sub2]\nDataType=7\nAccessType=rw\n[1017]\nDataType=6\nAccessType=rw\n[1029]\nObjectType=8\n[1029sub0]\n"
    ++ codes "DataType=5\nAccessType=ro\nDefaultValue=1\n[1029sub1]\nDataType=5\nAccessType=rw\nDefaultValue=0\n[1201]\n"
    ++ codes "ObjectType=9\n[1201sub0]\nDataType=5\nAccessType=ro\nDefaultValue=2\n[1201sub1]\nDataType=7\nAccessType=ro\n"
    ++ codes "DefaultValue=0x680\n[1201sub2]\nDataType=7\nAccessType=ro\nDefaultValue=0x681\n[1400]\nObjectType=9\n"
    ++ codes "[1400sub0]\nDataType=5\nAccessType=ro\nDefaultValue=2\n[1400sub1]\nDataType=7\nAccessType=rw\n"
    ++ codes "DefaultValue=$NODEID+0x200\n[1400sub2]\nDataType=5\nAccessType=rw\nDefaultValue=255\n[1600]\nObjectType=9\n"
    ++ codes "[1600sub0]\nDataType=5\nAccessType=rw\nDefaultValue=1\n[1600sub1]\nDataType=7\nAccessType=rw\n"
    ++ codes "DefaultValue=0x20020020\n[1600sub2]\nDataType=7\nAccessType=rw\nDefaultValue=0\n[1800]\nObjectType=9\n"
    ++ codes "[1800sub0]\nDataType=5\nAccessType=ro\nDefaultValue=5\n[1800sub1]\nDataType=7\nAccessType=rw\n"
    ++ codes "DefaultValue=$NODEID+0x180\n[1800sub2]\nDataType=5\nAccessType=rw\nDefaultValue=255\n[1800sub3]\nDataType=6\n"
    ++ codes "AccessType=rw\nDefaultValue=0\n[1800sub5]\nDataType=6\nAccessType=rw\nDefaultValue=0\n[1801]\nObjectType=9\n"
    ++ codes "[1801sub0]\nDataType=5\nAccessType=ro\nDefaultValue=5\n[1801sub1]\nDataType=7\nAccessType=rw\n"
    ++ codes "DefaultValue=$NODEID+0x280\n[1801sub2]\nDataType=5\nAccessType=rw\nDefaultValue=255\n[1801sub3]\nDataType=6\n"
    ++ codes "AccessType=rw\nDefaultValue=0\n[1801sub5]\nDataType=6\nAccessType=rw\nDefaultValue=0\n[1A00]\nObjectType=9\n"
    ++ codes "[1A00sub0]\nDataType=5\nAccessType=rw\nDefaultValue=1\n[1A00sub1]\nDataType=7\nAccessType=rw\n"
    ++ codes "DefaultValue=0x20020020\n[1A00sub2]\nDataType=7\nAccessType=rw\nDefaultValue=0\n[1A01]\nObjectType=9\n"
    ++ codes "[1A01sub0]\nDataType=5\nAccessType=rw\nDefaultValue=1\n[1A01sub1]\nDataType=7\nAccessType=rw\n"
    ++ codes "DefaultValue=0x20030010\n[1A01sub2]\nDataType=7\nAccessType=rw\nDefaultValue=0\n[2001]\nDataType=9\n"
    ++ codes "AccessType=rw\n[2002]\nDataType=7\nAccessType=rw\nPDOMapping=1\n[2003]\nDataType=6\nAccessType=rw\n"
    ++ codes "PDOMapping=1\nHighLimit=1000\n[2004]\nDataType=6\nAccessType=wo\n[2100]\nDataType=15\nAccessType=rw\n"

large_is_accepted : first_fault large ≡ None
large_is_accepted = refl

large_rows : length (rows_of large) ≡ 46
large_rows = refl

large_objects : length (objects_of large) ≡ 22
large_objects = refl

large_notes : notes_of (sections_in large) ≡ []
large_notes = refl

large_limited : slice_get (rows_of large) 43 ≡ Some (record { key = record { index = 0x2003; sub = 0 }; data_type = Unsigned16; access = Rw; low = None; high = Some (pos 1000); default = absent; mappable = true; name = None; line = 213 })
large_limited = refl

large_of_node : slice_get (rows_of large) 26 ≡ Some (record { key = record { index = 0x1800; sub = 1 }; data_type = Unsigned32; access = Rw; low = None; high = None; default = node_id 0x180; mappable = false; name = None; line = 140 })
large_of_node = refl
