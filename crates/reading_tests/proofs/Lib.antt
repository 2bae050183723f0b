mod Schemas
