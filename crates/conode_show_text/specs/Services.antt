-- SYNC, TIME, EMCY, heartbeats and SDO channels in words (CiA 301, 7.5.2).
use Rattle.std.specs.Prelude.{ℕ, ◌+◌, ◌-◌, ◌==◌, nat_le, ◌&&◌, if◌then◌else◌, List, [], ◌∷◌, ◌++◌, codes, decimal, Option, Some, None}
use Rattle.std.specs.Option.{option_map_or}
use Rattle.co_value.specs.declared.key.Key.{Key}
use Rattle.co_value.specs.KeyTexts.{key_text}
use Rattle.co_sheet_text.specs.declared.section_kind.SectionKind.{SectionKind}
use Rattle.co_sheet_text.specs.declared.section_kind.SectionKind.TheVariants.{Object, SubIndex}
use Rattle.co_sheet_text.specs.Sections.{TextSection}
use Rattle.conode_show_text.specs.declared.format.Format.{Format}
use Rattle.conode_show_text.specs.declared.meaning.Meaning.{Meaning}
use Rattle.conode_show_text.specs.declared.meaning.Meaning.TheVariants.{CobId, SyncCobId, SyncPeriod as PeriodMeaning, SyncWindow as WindowMeaning, SyncOverflow as OverflowMeaning, TimeCobId, EmcyInhibit, Consumer, Producer}
use Rattle.conode_show_text.specs.declared.service.Service.{Service}
use Rattle.conode_show_text.specs.declared.service.Service.TheVariants.{Sync, SyncPeriod, SyncWindow, SyncOverflow, Time, Emcy, EmcyInhibitTime, HeartbeatConsumer, HeartbeatProducer, SdoRequests, SdoResponses, ClientRequests, ClientResponses}
use Rattle.conode_show_text.specs.Layout.{Part, line_of}
use Rattle.conode_show_text.specs.Meanings.{said}

-- the service of an entry (CiA 301, 7.5.2)
abbrev pub service_of : Key → Option Service
service_of key =
    if key.index == 0x1005 && key.sub == 0 then Some Sync
    else if key.index == 0x1006 && key.sub == 0 then Some SyncPeriod
    else if key.index == 0x1007 && key.sub == 0 then Some SyncWindow
    else if key.index == 0x1012 && key.sub == 0 then Some Time
    else if key.index == 0x1014 && key.sub == 0 then Some Emcy
    else if key.index == 0x1015 && key.sub == 0 then Some EmcyInhibitTime
    else if key.index == 0x1016 && nat_le 1 key.sub then Some HeartbeatConsumer
    else if key.index == 0x1017 && key.sub == 0 then Some HeartbeatProducer
    else if key.index == 0x1019 && key.sub == 0 then Some SyncOverflow
    else if nat_le 0x1200 key.index && nat_le key.index 0x127F && key.sub == 1 then Some (SdoRequests (key.index - 0x1200 + 1))
    else if nat_le 0x1200 key.index && nat_le key.index 0x127F && key.sub == 2 then Some (SdoResponses (key.index - 0x1200 + 1))
    else if nat_le 0x1280 key.index && nat_le key.index 0x12FF && key.sub == 1 then Some (ClientRequests (key.index - 0x1280 + 1))
    else if nat_le 0x1280 key.index && nat_le key.index 0x12FF && key.sub == 2 then Some (ClientResponses (key.index - 0x1280 + 1))
    else None

-- the words of a service, of an SDO channel those before its number
abbrev pub service_words : Service → List ℕ
service_words Sync = codes "SYNC"
service_words SyncPeriod = codes "SYNC period"
service_words SyncWindow = codes "SYNC window"
service_words SyncOverflow = codes "SYNC counter overflow"
service_words Time = codes "TIME"
service_words Emcy = codes "EMCY"
service_words EmcyInhibitTime = codes "EMCY inhibit time"
service_words HeartbeatConsumer = codes "Heartbeat consumer"
service_words HeartbeatProducer = codes "Heartbeat producer"
service_words (SdoRequests channel) = codes "SDO "
service_words (SdoResponses channel) = codes "SDO "
service_words (ClientRequests channel) = codes "SDO client "
service_words (ClientResponses channel) = codes "SDO client "

-- the number of an SDO channel, of which the device is the server or the client, and its direction
abbrev pub channel_of : Service → Option ℕ
channel_of (SdoRequests channel) = Some channel
channel_of (SdoResponses channel) = Some channel
channel_of (ClientRequests channel) = Some channel
channel_of (ClientResponses channel) = Some channel
channel_of service = None

abbrev pub way_of : Service → List ℕ
way_of (SdoRequests channel) = codes ", client to server"
way_of (ClientRequests channel) = codes ", client to server"
way_of service = codes ", server to client"

-- the name of a service
unfoldable pub service_name : Service → List ℕ
service_name service =
    option_map_or (λ channel. service_words service ++ decimal channel ++ way_of service)
    (channel_of service) (service_words service)

-- the meaning of its number
abbrev pub service_meaning : Service → Meaning
service_meaning Sync = SyncCobId
service_meaning SyncPeriod = PeriodMeaning
service_meaning SyncWindow = WindowMeaning
service_meaning SyncOverflow = OverflowMeaning
service_meaning Time = TimeCobId
service_meaning Emcy = CobId
service_meaning EmcyInhibitTime = EmcyInhibit
service_meaning HeartbeatConsumer = Consumer
service_meaning HeartbeatProducer = Producer
service_meaning (SdoRequests channel) = CobId
service_meaning (SdoResponses channel) = CobId
service_meaning (ClientRequests channel) = CobId
service_meaning (ClientResponses channel) = CobId

-- the key of the entry that a section describes
abbrev pub key_of : SectionKind → Option Key
key_of (Object index) = Some (record { index = index; sub = 0 })
key_of (SubIndex key) = Some key
key_of other = None

-- key, service, and what the entry says in words
abbrev pub service_parts : Option ℕ → Key → Service → TextSection → List Part
service_parts node key service section =
    record { column = 0; text = key_text key }
    ∷ record { column = 8; text = service_name service }
    ∷ record { column = 38; text = said (service_meaning service) node section } ∷ []

unfoldable pub service_line : Format → Option ℕ → Key → Service → TextSection → List ℕ
service_line format node key service section = line_of format (service_parts node key service section)

-- the line of an entry of a service; nothing for any other
abbrev pub line_of_key : Format → Option ℕ → TextSection → Key → List ℕ
line_of_key format node section key =
    option_map_or (λ service. service_line format node key service section) (service_of key) []

abbrev pub service_text : Format → Option ℕ → TextSection → List ℕ
service_text format node section = option_map_or (line_of_key format node section) (key_of section.kind) []
