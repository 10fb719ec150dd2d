mod NameLists
mod UserTables
